-- The edges of a figure by their places: each has two different ends within the limit, and those at the places that meet a box.
use Rattle.std.proofs.Common.{◌≡◌, ◌⊎◌, inl, inr, ℕ, zero, suc, ◌+◌, ◌<◌, ◌≤◌, List, [], ◌∷◌, ◌++◌, map, length, get_or, ap, refl, sym, ◌∙◌}
use Rattle.std.proofs.Common.{subst, arith}
use Rattle.std.specs.Option.{option_map}
use Rattle.std.specs.List.{All}
use Rattle.std.proofs.lemmas.Bool.{cases_lt}
use Rattle.std.proofs.lemmas.List.Elements.{All-push, at_from_Contains}
use Rattle.std.proofs.lemmas.Option.{slice_get_within, slice_get-map}
use Rattle.plane_laws.specs.Plane.{Point}
use Rattle.plane_exact.specs.Windows.{IsInWindow}
use Rattle.plane_exact.specs.declared.point.Seg.{Seg}
use Rattle.plane_exact.specs.declared.window.Window.{Window}
use Rattle.point_set.specs.declared.edge.Edge.{Edge}
use Rattle.point_set.specs.declared.figure.Figure.{Figure}
use Rattle.point_set.specs.Edges.{OwnedEdge, edges_of_figure, IsEdgeAt, ArePlacesIn, MeetsAtPlace}
use Rattle.point_set.specs.Nodes.{segs_of}
use Rattle.point_set.specs.Shape.{IsWellShaped}
use Rattle.point_set.specs.Validity.{IsAtPlace, IsOnEdge}
use Rattle.figure_laws.proofs.Edges.Limits.{IsOwnedProper, proper_figure}
use Rattle.figure_laws.proofs.Lists.Items.{Each, each_both, place_left}
use Rattle.figure_laws.proofs.Lists.Least.{by_place}
use Rattle.figure_laws.proofs.Lists.Places.{some_same, all_at}
use Rattle.box_laws.proofs.Boxes.Edges.{box_of, box_least}
use Rattle.relate_core.specs.NodeSets.{HasTwoEnds, AreEdgesNear}

-- ---- an edge at a place
-- the edges of a well shaped figure have two different ends within the limit
pub two_ends_at : (f : Figure) (place : ℕ) (edge : OwnedEdge) → IsWellShaped f → IsAtPlace (edges_of_figure f) place edge
    → HasTwoEnds edge.seg
two_ends_at f place edge shaped is =
    let p = all_at IsOwnedProper (edges_of_figure f) place edge (proper_figure f shaped) is in
    record { first = p.first; second = p.second; apart = p.apart }

-- also an edge with its hand
pub two_ends : (f : Figure) (place : ℕ) (edge : Edge) → IsWellShaped f → IsEdgeAt (edges_of_figure f) place edge → HasTwoEnds edge.seg
two_ends f place edge shaped is = two_ends_at f place (record { seg = edge.seg; owner = edge.owner }) shaped is.is

-- its segment is at the same place
pub seg_at : (f : Figure) (place : ℕ) (edge : OwnedEdge) → IsAtPlace (edges_of_figure f) place edge → IsAtPlace (segs_of f) place edge.seg
seg_at f place edge is =
    slice_get-map (λ (z : OwnedEdge). z.seg) (edges_of_figure f) place ∙ ap (option_map (λ (z : OwnedEdge). z.seg)) is

-- and a segment at a place is that of the edge there
pub record HasEdgeAt (f : Figure) (place : ℕ) (e : Seg) : Type 0 where
  pub edge : OwnedEdge
  pub edge_is : IsAtPlace (edges_of_figure f) place edge
  pub seg_is : edge.seg ≡ e

-- each segment of the figure has its edge
pub edge_of_seg : (f : Figure) (place : ℕ) (e : Seg) → IsAtPlace (segs_of f) place e → HasEdgeAt f place e
edge_of_seg f place e is = let h = go (edges_of_figure f) place is in record { edge = h.0; edge_is = h.1; seg_is = h.2 }
  where
    go : (edges : List OwnedEdge) (k : ℕ) → IsAtPlace (map (λ edge. edge.seg) edges) k e
        → (edge : OwnedEdge) × IsAtPlace edges k edge × (edge.seg ≡ e)
    go [] k is = cc
    go (x ∷ edges) zero is = (x, refl, some_same is)
    go (x ∷ edges) (suc k) is = go edges k is

-- ---- the places of edges that meet a window
-- a place is one of those in a list
pub record HasPlaceIn (places : List ℕ) (place : ℕ) : Type 0 where
  pub index : ℕ
  pub below : index < length places
  pub reads : (d : ℕ) → get_or places index d ≡ place

-- a list of places is read as it stands
pub as_read : (f : Figure) (w : Window) (items places : List ℕ) → items ≡ places → ArePlacesIn w (edges_of_figure f) places
    → ArePlacesIn w (edges_of_figure f) items
as_read f w items places same near = subst (λ (xs : List ℕ). ArePlacesIn w (edges_of_figure f) xs) (sym same) near

-- and each is the place of an edge
pub place_within : {edges : List OwnedEdge} {w : Window} {items places : List ℕ} → items ≡ places → ArePlacesIn w edges places → {k : ℕ}
    → k < length items → get_or items k 0 < length edges
place_within {edges} {w} {items} same near {k} below =
    let m = (subst (ArePlacesIn w edges) (sym same) near).meet k 0 below in
    slice_get_within edges (get_or items k 0) m.edge m.edge_is

module _ (f : Figure) (w : Window) (places : List ℕ) (near : ArePlacesIn w (edges_of_figure f) places) where
  -- a place that meets the window is there
  pub place_in : (place : ℕ) → MeetsAtPlace w (edges_of_figure f) place → HasPlaceIn places place
  place_in place meets =
      let c = at_from_Contains places place (near.whole place meets) in
      record { index = c.0; below = c.1; reads = c.2 }

  -- so is that of an edge with a point in the window
  pub near_place : (place : ℕ) (edge : OwnedEdge) → IsAtPlace (edges_of_figure f) place edge → (v : Point) → IsOnEdge edge.seg v
      → IsInWindow w v → HasPlaceIn places place
  near_place place edge is v on there =
      place_in place (record {
        edge = edge;
        edge_is = is;
        meets = record {
          box = box_of edge.seg;
          least = box_least edge.seg;
          common = record { point = v; here = (box_least edge.seg).holds v on; there = there };
        };
      })

-- ---- the edges at some places
-- the edges at the first k places stand in a list
pub record AreEdgesBefore (f : Figure) (places : List ℕ) (k : ℕ) (edges : List Seg) : Type 0 where
  pub two_ends : All HasTwoEnds edges
  pub only : Each (λ e. (i : ℕ) × IsAtPlace (segs_of f) i e) edges
  pub whole : (i : ℕ) → i < k → (e : Seg) → IsAtPlace (segs_of f) (get_or places i 0) e → (j : ℕ) × IsAtPlace edges j e

-- the last item of a list
place_last : {X : Type 0} (xs : List X) (x : X) → IsAtPlace (xs ++ x ∷ []) (length xs) x
place_last [] x = refl
place_last (y ∷ xs) x = place_last xs x

-- one edge more
pub edge_more : (f : Figure) (places : List ℕ) (k : ℕ) (edges new : List Seg) (edge : Edge) → HasTwoEnds edge.seg
    → IsEdgeAt (edges_of_figure f) (get_or places k 0) edge → new ≡ edges ++ edge.seg ∷ [] → AreEdgesBefore f places k edges
    → AreEdgesBefore f places (k + 1) new
edge_more f places k edges new edge ends is e h =
    subst (λ (xs : List Seg). AreEdgesBefore f places (k + 1) xs) (sym e) (record {
      two_ends = All-push HasTwoEnds edges edge.seg h.two_ends ends;
      only =
          each_both (λ z. (i : ℕ) × IsAtPlace (segs_of f) i z) edges (edge.seg ∷ []) h.only
          (by_place edge.seg [] (λ z. (i : ℕ) × IsAtPlace (segs_of f) i z) (get_or places k 0, here) (λ i z at. cc));
      whole = λ i below z at. by_index i z at (cases_lt i k) below;
    })
  where
    here : IsAtPlace (segs_of f) (get_or places k 0) edge.seg
    here = seg_at f (get_or places k 0) (record { seg = edge.seg; owner = edge.owner }) is.is

    by_index : (i : ℕ) (z : Seg) → IsAtPlace (segs_of f) (get_or places i 0) z → (i < k) ⊎ (k ≤ i) → i < k + 1
        → (j : ℕ) × IsAtPlace (edges ++ edge.seg ∷ []) j z
    by_index i z at (inl l) below =
        let j = h.whole i l z at in
        (j.0, place_left edges (edge.seg ∷ []) j.0 z j.1)
    by_index i z at (inr l) below =
        let same : i ≡ k = omega (arith, l, below) in
        let is_edge : edge.seg ≡ z = some_same (sym here ∙ subst (λ (n : ℕ). IsAtPlace (segs_of f) (get_or places n 0) z) same at) in
        (length edges, subst (λ (x : Seg). IsAtPlace (edges ++ edge.seg ∷ []) (length edges) x) is_edge (place_last edges edge.seg))

-- past the last place these are all that meet the window, where the places are those that meet it
pub all_near : (f : Figure) (w : Window) (places : List ℕ) → ArePlacesIn w (edges_of_figure f) places → (k : ℕ) → length places ≤ k
    → (edges : List Seg) → AreEdgesBefore f places k edges → AreEdgesNear w f edges
all_near f w places near k past edges h = record {
  two_ends = h.two_ends;
  only = h.only;
  whole = λ place e is meets. go place e is (place_in f w places near place meets);
}
  where
    go : (place : ℕ) (e : Seg) → IsAtPlace (segs_of f) place e → HasPlaceIn places place → (i : ℕ) × IsAtPlace edges i e
    go place e is p =
        let below = p.below in
        h.whole p.index (omega (arith, below, past)) e (subst (λ (n : ℕ). IsAtPlace (segs_of f) n e) (sym (p.reads 0)) is)
