-- The sections of the edges of areas round a point are all the sections there of the areas alone.
use Rattle.std.proofs.Common.{◌≡◌, ◌⊎◌, inl, inr, ℕ, ◌+◌, ◌<◌, ◌≤◌, Bool, None, List, [], ◌++◌, length, get_or, ap, refl, sym, ◌∙◌, subst}
use Rattle.std.proofs.Common.{arith}
use Rattle.std.specs.List.{All, Any}
use Rattle.std.proofs.lemmas.Bool.{cases_lt}
use Rattle.std.proofs.lemmas.List.Elements.{All-nil, All-append, All-same, All-weaker, at_from_Contains}
use Rattle.im_matrix.specs.declared.Which.TheVariants.{A}
use Rattle.plane_laws.specs.Plane.{Point, IsSamePoint}
use Rattle.plane_exact.specs.Places.{point_of}
use Rattle.plane_exact.specs.declared.point.Seg.{Seg}
use Rattle.point_set.specs.declared.edge.Edge.{Edge}
use Rattle.point_set.specs.declared.edge.Owner.{Owner}
use Rattle.point_set.specs.declared.edge.Owner.TheVariants.{Line, Ring}
use Rattle.point_set.specs.declared.figure.Figure.{Figure}
use Rattle.point_set.specs.Edges.{OwnedEdge, HasHand, edges_of_figure, far_end, area_of}
use Rattle.point_set.specs.Validity.{IsAtPlace, IsOnEdge}
use Rattle.figure_laws.proofs.Edges.Owners.{HasPlace, IsEdgeOf, edge_of_owner, owner_has_edge}
use Rattle.figure_laws.proofs.Lists.Places.{some_same, all_at}
use Rattle.figure_laws.proofs.Lists.Search.{any_left, any_right}
use Rattle.fan_order.specs.declared.section.Section.{Section}
use Rattle.fan_order.specs.Rays.{IsShort}
use Rattle.fan_order.specs.Sections.{IsSectionAt, IsSectionToward, AreSectionsAt, AddsSectionsOf}
use Rattle.fan_laws.proofs.Fans.Added.{added_only, added_whole}
use Rattle.ring_sides.specs.Rows.{owned_edge, HasItsHand}
use Rattle.union_locator.proofs.NearEdges.{edge_there, near_edge, near_row}
use Rattle.point_set.specs.Location.{areas_alone}
use Rattle.union_locator.specs.Nearby.{IsNearby, IsAreaEdgeAt}

-- ---- edges of areas, in the figure and in its areas alone
-- an edge of an area is one of the areas alone
area_place : (f : Figure) (place : ℕ) (edge : OwnedEdge) → IsAtPlace (edges_of_figure f) place edge → ¬ (area_of edge.owner ≡ None)
    → HasPlace (edges_of_figure (areas_alone f)) edge
area_place f place edge is of_area = by_owner edge.owner refl (edge_of_owner f edge (record { place = place; is = is }))
  where
    by_owner : (owner : Owner) → edge.owner ≡ owner → IsEdgeOf f edge.owner edge.seg → HasPlace (edges_of_figure (areas_alone f)) edge
    by_owner (Line k) e h = absurd (of_area (ap area_of e))
    by_owner (Ring k r) e h =
        subst (λ (o : Owner). HasPlace (edges_of_figure (areas_alone f)) (record { seg = edge.seg; owner = o })) (sym e)
        (owner_has_edge (areas_alone f) (Ring k r) edge.seg (subst (λ (o : Owner). IsEdgeOf f o edge.seg) e h))

-- an edge of the areas alone is one of the figure, and of an area
record HasAreaPlace (f : Figure) (edge : OwnedEdge) : Type 0 where
  here : HasPlace (edges_of_figure f) edge
  of_area : ¬ (area_of edge.owner ≡ None)

figure_place : (f : Figure) (place : ℕ) (edge : OwnedEdge) → IsAtPlace (edges_of_figure (areas_alone f)) place edge → HasAreaPlace f edge
figure_place f place edge is = by_owner edge.owner refl (edge_of_owner (areas_alone f) edge (record { place = place; is = is }))
  where
    by_owner : (owner : Owner) → edge.owner ≡ owner → IsEdgeOf (areas_alone f) edge.owner edge.seg → HasAreaPlace f edge
    by_owner (Line k) e h = let none = (subst (λ (o : Owner). IsEdgeOf (areas_alone f) o edge.seg) e h).way_is in cc
    by_owner (Ring k r) e h = record {
      here =
          subst (λ (o : Owner). HasPlace (edges_of_figure f) (record { seg = edge.seg; owner = o })) (sym e)
          (owner_has_edge f (Ring k r) edge.seg (subst (λ (o : Owner). IsEdgeOf (areas_alone f) o edge.seg) e h));
      of_area = λ none. (let some = sym (ap area_of e) ∙ none in cc);
    }

-- its hand is the same
area_hand :
    (f : Figure) (owner : Owner) (e : Seg) (side : _) → ¬ (area_of owner ≡ None) → HasHand f owner e side
    → HasHand (areas_alone f) owner e side
area_hand f (Line k) e side of_area h = h
area_hand f (Ring k r) e side of_area h = h

-- ---- the sections of the first k places
pub record AreSectionsBefore (f : Figure) (p : Point) (rows : List Edge) (places : List ℕ) (k : ℕ) (sections : List Section) : Type 0 where
  pub only : All (IsSectionAt A (areas_alone f) p) sections
  pub whole :
      (i : ℕ) → i < k → (edge : Edge) → IsAreaEdgeAt rows (get_or places i 0) p edge → (forward : Bool)
      → ¬ IsSamePoint (point_of (far_end forward edge.seg)) p → Any (IsSectionToward A (areas_alone f) (owned_edge edge) forward) sections
  pub short : All (λ s. IsShort s.dir) sections

pub none_before : (f : Figure) (p : Point) (rows : List Edge) (places : List ℕ) → AreSectionsBefore f p rows places 0 []
none_before f p rows places = record {
  only = All-nil (IsSectionAt A (areas_alone f) p);
  whole = λ i below edge h forward away. absurd (omega (arith, below));
  short = All-nil (λ (s : Section). IsShort s.dir);
}

module _ (f : Figure) (p : Point) (rows : List Edge) (places : List ℕ) (k : ℕ) (sections : List Section)
    (before : AreSectionsBefore f p rows places k sections) where
  -- a place without an edge of an area that holds the point adds nothing
  pub nothing_more : ((edge : Edge) → ¬ IsAreaEdgeAt rows (get_or places k 0) p edge) → AreSectionsBefore f p rows places (k + 1) sections
  nothing_more none = record {
    only = before.only;
    whole = λ i below edge h forward away. by_place i edge h forward away (cases_lt i k) below;
    short = before.short;
  }
    where
      by_place : (i : ℕ) (edge : Edge) → IsAreaEdgeAt rows (get_or places i 0) p edge → (forward : Bool)
          → ¬ IsSamePoint (point_of (far_end forward edge.seg)) p → (i < k) ⊎ (k ≤ i) → i < k + 1
          → Any (IsSectionToward A (areas_alone f) (owned_edge edge) forward) sections
      by_place i edge h forward away (inl l) below = before.whole i l edge h forward away
      by_place i edge h forward away (inr l) below =
          let same : i ≡ k = omega (arith, l, below) in
          absurd (none edge (subst (λ (j : ℕ). IsAreaEdgeAt rows (get_or places j 0) p edge) same h))

  -- and one with such an edge adds its sections
  module _ (near : IsNearby f p rows places) (edge : Edge) (here : IsAreaEdgeAt rows (get_or places k 0) p edge) (new : List Section)
      (adds : AddsSectionsOf A edge p sections new) (short : All (λ s. IsShort s.dir) sections → All (λ s. IsShort s.dir) new) where
    hand : HasHand (areas_alone f) edge.owner edge.seg edge.hand
    hand = area_hand f edge.owner edge.seg edge.hand here.of_area (all_at (HasItsHand f) rows (get_or places k 0) edge near.hands here.is)

    alone : HasPlace (edges_of_figure (areas_alone f)) (owned_edge edge)
    alone =
        area_place f (get_or places k 0) (owned_edge edge) (edge_there f p rows places near (get_or places k 0) edge here.is) here.of_area

    pub sections_more : AreSectionsBefore f p rows places (k + 1) new
    sections_more = record {
      only =
          All-same (IsSectionAt A (areas_alone f) p) new (sections ++ adds.more) adds.new_is
          (All-append (IsSectionAt A (areas_alone f) p) sections adds.more before.only
          (added_only A (areas_alone f) edge hand p alone.place alone.is here.on adds.more adds.are));
      whole = λ i below other h forward away. by_place i other h forward away (cases_lt i k) below;
      short = short before.short;
    }
      where
        grown : (forward : Bool) (other : Edge) → Any (IsSectionToward A (areas_alone f) (owned_edge other) forward) (sections ++ adds.more)
            → Any (IsSectionToward A (areas_alone f) (owned_edge other) forward) new
        grown forward other h =
            subst (λ (xs : List Section). Any (IsSectionToward A (areas_alone f) (owned_edge other) forward) xs) (sym adds.new_is) h

        by_place : (i : ℕ) (other : Edge) → IsAreaEdgeAt rows (get_or places i 0) p other → (forward : Bool)
            → ¬ IsSamePoint (point_of (far_end forward other.seg)) p → (i < k) ⊎ (k ≤ i) → i < k + 1
            → Any (IsSectionToward A (areas_alone f) (owned_edge other) forward) new
        by_place i other h forward away (inl l) below =
            grown forward other
            (any_left (IsSectionToward A (areas_alone f) (owned_edge other) forward) sections adds.more
            (before.whole i l other h forward away))
        by_place i other h forward away (inr l) below =
            let at : i ≡ k = omega (arith, l, below) in
            let same : edge ≡ other = some_same (sym here.is ∙ subst (λ (j : ℕ). IsAtPlace rows (get_or places j 0) other) at h.is) in
            grown forward other
            (any_right (IsSectionToward A (areas_alone f) (owned_edge other) forward) sections adds.more
            (subst (λ (e : Edge). ¬ IsSamePoint (point_of (far_end forward e.seg)) p
            → Any (IsSectionToward A (areas_alone f) (owned_edge e) forward) adds.more) same
            (added_whole A (areas_alone f) edge hand p adds.more adds.are forward) away))

-- past the last place these are all
pub all_sections : (f : Figure) (p : Point) (rows : List Edge) (places : List ℕ) → IsNearby f p rows places → (k : ℕ) → length places ≤ k
    → (sections : List Section) → AreSectionsBefore f p rows places k sections → AreSectionsAt A (areas_alone f) p sections
all_sections f p rows places near k past sections before = record {
  only =
      All-weaker (IsSectionAt A (areas_alone f) p) (λ s. s.which ≡ A → IsSectionAt A (areas_alone f) p s)
      (λ s h which_is. h) sections before.only;
  whole = λ place edge is on forward away. go edge on forward away (figure_place f place edge is);
}
  where
    go : (edge : OwnedEdge) → IsOnEdge edge.seg p → (forward : Bool) → ¬ IsSamePoint (point_of (far_end forward edge.seg)) p
        → HasAreaPlace f edge → Any (IsSectionToward A (areas_alone f) edge forward) sections
    go edge on forward away h =
        let r = near_row f p rows places near h.here.place edge h.here.is in
        let there = at_from_Contains places h.here.place (near_edge f p rows places near h.here.place edge h.here.is on) in
        let below = there.1 in
        subst (λ (e : OwnedEdge). Any (IsSectionToward A (areas_alone f) e forward) sections) r.same
        (before.whole there.0 (omega (arith, past, below)) r.row
        (subst (λ (j : ℕ). IsAreaEdgeAt rows j p r.row) (sym (there.2 0))
        (record {
          is = r.is;
          of_area = λ none. h.of_area (sym (ap (λ (z : OwnedEdge). area_of z.owner) r.same) ∙ none);
          on = subst (λ (z : OwnedEdge). IsOnEdge z.seg p) (sym r.same) on;
        }))
        forward (subst (λ (z : OwnedEdge). ¬ IsSamePoint (point_of (far_end forward z.seg)) p) (sym r.same) away))
