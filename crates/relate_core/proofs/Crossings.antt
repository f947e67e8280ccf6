-- Where two edges have one common point alone: what a test of two edges says, and the edges that a pass over the places near an edge and a
-- box finds.
use Rattle.std.proofs.Common.{◌≡◌, ℕ, true, false, List, refl, sym, ◌∙◌, subst}
use Rattle.std.proofs.lemmas.Bool.{true≢false}
use Rattle.std.proofs.lemmas.Option.{slice_get-get_or}
use Rattle.plane_laws.proofs.Points.Order.{compare_points_same}
use Rattle.plane_laws.proofs.Points.Same.{same_refl, same_sym, same_trans}
use Rattle.plane_laws.proofs.Segments.Mixes.{segment_same, start_on_segment, end_on_segment}
use Rattle.plane_laws.specs.Plane.{Point, IsSamePoint}
use Rattle.plane_exact.specs.NodePoints.{point_at}
use Rattle.plane_exact.specs.Places.{point_of}
use Rattle.plane_exact.specs.Windows.{IsInWindow, IsLeastWindow}
use Rattle.plane_exact.specs.declared.node.Node.{Node}
use Rattle.plane_exact.specs.declared.point.Seg.{Seg}
use Rattle.plane_exact.specs.declared.window.Window.{Window}
use Rattle.point_set.specs.declared.figure.Figure.{Figure}
use Rattle.point_set.specs.Edges.{OwnedEdge, edges_of_figure, ArePlacesIn}
use Rattle.point_set.specs.Nodes.{IsOnlyCommonPoint, segs_of}
use Rattle.point_set.specs.Shape.{has_item}
use Rattle.point_set.specs.Validity.{IsAtPlace, IsOnEdge}
use Rattle.figure_laws.proofs.Lists.Places.{some_same}
use Rattle.node_table.specs.declared.entry.Entry.{Entry}
use Rattle.box_laws.proofs.Boxes.Edges.{box_of, box_least, holds_near}
use Rattle.box_laws.specs.Boxes.{IsNearBox}
use Rattle.seg_cross.specs.Meets.{IsMeet}
use Rattle.seg_cross.specs.declared.answer.Meet.{Meet}
use Rattle.seg_cross.specs.declared.answer.Meet.TheVariants.{Apart, At, Along}
use Rattle.relate_core.specs.NodeSets.{AddsNear, IsAtThe, IsOfSome, CrossesOne, CrossesSome, CrossesWithin}
use Rattle.relate_core.proofs.FigureEdges.{HasEdgeAt, HasPlaceIn, edge_of_seg, seg_at, place_in}
use Rattle.relate_core.proofs.Sets.{adds_none, adds_same}

-- ---- the only common point of two edges
-- it is the node that the test answers
only_at : {e f : Seg} {v : Point} (n : Node) → IsMeet e f (At n) → IsSamePoint v (point_at n) → IsOnlyCommonPoint e f v
only_at {e} {f} {v} n m s = record {
  on_e = segment_same (same_refl (point_of e.a)) (same_refl (point_of e.b)) (same_sym s) m.common.first;
  on_f = segment_same (same_refl (point_of f.a)) (same_refl (point_of f.b)) (same_sym s) m.common.second;
  only = λ p on_e on_f. same_trans (m.only p (record { first = on_e; second = on_f })) (same_sym s);
}

-- where it answers another there is none
not_only : {e f : Seg} {v : Point} (m : Meet) → IsMeet e f m → ((n : Node) → ¬ (m ≡ At n)) → ¬ IsOnlyCommonPoint e f v
not_only {e} {f} {v} Apart h other c = h v (record { first = c.on_e; second = c.on_f })
not_only {e} {f} {v} (At n) h other c = other n refl
not_only {e} {f} {v} (Along p q) h other c =
    let low = h.common (point_of p) (start_on_segment (point_of p) (point_of q)) in
    let high = h.common (point_of q) (end_on_segment (point_of p) (point_of q)) in
    let same = same_trans (c.only (point_of p) low.first low.second) (same_sym (c.only (point_of q) high.first high.second)) in
    let both = sym h.ordered ∙ compare_points_same (point_of p) (point_of q) same in
    cc

-- ---- an edge with the edges at some places
-- the point is the only common point of the edge and the one at a place
pub record CrossesAt (e : Seg) (edges : List OwnedEdge) (place : ℕ) (v : Point) : Type 0 where
  pub other : OwnedEdge
  pub other_is : IsAtPlace edges place other
  pub crosses : IsOnlyCommonPoint e other.seg v

module _ (w : Window) (e : Seg) (edges : List OwnedEdge) (place : ℕ) (other : OwnedEdge) (is : IsAtPlace edges place other) where
  -- where the test answers a node, this node is put in where it is near
  pub crossing_added : (n : Node) (old new : List Entry) → IsMeet e other.seg (At n) → AddsNear w (IsAtThe (point_at n)) old new
      → AddsNear w (CrossesAt e edges place) old new
  crossing_added n old new m added =
      adds_same w (λ v s. record { other = other; other_is = is; crosses = only_at n m s })
      (λ v near c.
      let same : c.other ≡ other = some_same (sym c.other_is ∙ is) in
      let here = subst (λ (z : OwnedEdge). IsOnlyCommonPoint e z.seg v) same c.crosses in
      m.only v (record { first = here.on_e; second = here.on_f }))
      added

  -- and else none
  pub no_crossing : (m : Meet) (old : List Entry) → IsMeet e other.seg m → ((n : Node) → ¬ (m ≡ At n))
      → AddsNear w (CrossesAt e edges place) old old
  no_crossing m old h not_at =
      adds_none w old
      (λ v near c.
      let same : c.other ≡ other = some_same (sym c.other_is ∙ is) in
      not_only m h not_at (subst (λ (z : OwnedEdge). IsOnlyCommonPoint e z.seg v) same c.crosses))

-- the edges that meet all that the edge's box and a box have in common are all that cross the edge near that box
pub all_crossings : (f : Figure) (e : Seg) (w around common : Window) → IsLeastWindow (IsOnEdge e) around
    → ((p : Point) → IsInWindow around p → IsInWindow w p → IsInWindow common p) → (places : List ℕ)
    → ArePlacesIn common (edges_of_figure f) places → (old new : List Entry)
    → AddsNear w (IsOfSome (CrossesAt e (edges_of_figure f)) places) old new → AddsNear w (CrossesOne e (segs_of f)) old new
all_crossings f e w around common least holds places found old new h = adds_same w there back h
  where
    there : (v : Point) → IsOfSome (CrossesAt e (edges_of_figure f)) places v → CrossesOne e (segs_of f) v
    there v c = record {
      place = c.item;
      item = c.is_of.other.seg;
      item_is = seg_at f c.item c.is_of.other c.is_of.other_is;
      is_of = c.is_of.crosses;
    }

    back : (v : Point) → IsNearBox w v → CrossesOne e (segs_of f) v → IsOfSome (CrossesAt e (edges_of_figure f)) places v
    back v near c = go (edge_of_seg f c.place c.item c.item_is)
      where
        go : HasEdgeAt f c.place c.item → IsOfSome (CrossesAt e (edges_of_figure f)) places v
        go t =
            let crosses = subst (λ (z : Seg). IsOnlyCommonPoint e z v) (sym t.seg_is) c.is_of in
            let p : HasPlaceIn places c.place = place_in f common places found c.place (record {
              edge = t.edge;
              edge_is = t.edge_is;
              meets = record {
                box = box_of t.edge.seg;
                least = box_least t.edge.seg;
                common = record {
                  point = near.common.point;
                  here = holds_near t.edge.seg (box_of t.edge.seg) (box_least t.edge.seg) w v near crosses.on_f;
                  there = holds near.common.point (holds_near e around least w v near crosses.on_e) near.common.there;
                };
              };
            }) in
            record {
              place = p.index;
              item = c.place;
              item_is = subst (λ (z : ℕ). IsAtPlace places p.index z) (p.reads 0) (slice_get-get_or places p.index 0 p.below);
              is_of = record { other = t.edge; other_is = t.edge_is; crosses = crosses };
            }

-- ---- the edges of a figure with themselves
-- where the figure has areas, all their crossings have to be in
pub own_crossings : (w : Window) (f : Figure) (edges : List Seg) (old new : List Entry) → has_item f.areas ≡ true
    → AddsNear w (CrossesSome edges (segs_of f)) old new → AddsNear w (CrossesWithin edges f) old new
own_crossings w f edges old new has h = adds_same w (λ v c. (has, c)) (λ v near c. c.1) h

-- and else none
pub no_own_crossings : (w : Window) (f : Figure) (edges : List Seg) (t : List Entry) → has_item f.areas ≡ false
    → AddsNear w (CrossesWithin edges f) t t
no_own_crossings w f edges t none = adds_none w t (λ v near c. true≢false (sym c.0 ∙ none))
