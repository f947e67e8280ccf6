-- What one step of a pass over positions, lines and edges puts into a table where it is near a box.
use Rattle.std.proofs.Common.{◌≡◌, ℕ, ◌+◌, ◌<◌, None, List, [], length, get_or, sym, ◌∙◌, subst}
use Rattle.std.specs.Prelude.{slice_get}
use Rattle.std.proofs.lemmas.Option.{slice_get-get_or}
use Rattle.plane_laws.proofs.Points.Same.{same_refl, same_sym}
use Rattle.plane_laws.proofs.Segments.Mixes.{segment_same, start_on_segment}
use Rattle.plane_laws.proofs.Segments.On.{on_segment_of_same}
use Rattle.plane_laws.specs.Plane.{Point, IsSamePoint, IsOnSegment}
use Rattle.plane_exact.specs.NodePoints.{point_at}
use Rattle.plane_exact.specs.Places.{point_of}
use Rattle.plane_exact.specs.Windows.{IsLeastWindow, HasCommonPoint}
use Rattle.plane_exact.specs.declared.node.Node.{Node}
use Rattle.plane_exact.specs.declared.point.Pt.{Pt}
use Rattle.plane_exact.specs.declared.point.Seg.{Seg}
use Rattle.plane_exact.specs.declared.window.Window.{Window}
use Rattle.point_set.specs.declared.figure.Figure.{Figure}
use Rattle.point_set.specs.Nodes.{segs_of}
use Rattle.point_set.specs.Validity.{IsAtPlace}
use Rattle.figure_laws.proofs.Lists.Places.{some_same}
use Rattle.box_laws.proofs.Boxes.Round.{near_by_least, near_same}
use Rattle.box_laws.specs.Boxes.{IsNearBox}
use Rattle.node_table.specs.Tables.{with_sections}
use Rattle.node_table.specs.declared.entry.Entry.{Entry}
use Rattle.relate_core.specs.NodeSets.{AddsNear, CrossesOne, IsAtPosition, IsAtFirst, IsAtEitherEnd, IsAtThe}
use Rattle.relate_core.proofs.Sets.{IsOfBefore, adds_none, adds_node, adds_both, adds_same, adds_next}

-- what is read from a list within its length is the item there
item_at : {X : Type 0} (items xs : List X) (k : ℕ) (d : X) → items ≡ xs → k < length items → IsAtPlace xs k (get_or items k d)
item_at {X} items xs k d same below =
    subst (λ (ys : List X). IsAtPlace ys k (get_or items k d)) same (slice_get-get_or items k d below)

module _ (w : Window) where
  -- ---- a position
  module _ (p : Pt) (box : Window) (least : IsLeastWindow (IsOnSegment (point_of p) (point_of p)) box) where
    -- the box of a segment with both ends at a position is the least one round it
    round_position : IsLeastWindow (IsSamePoint (point_of p)) box
    round_position = record {
      holds = λ q same.
          least.holds q
          (segment_same (same_refl (point_of p)) (same_refl (point_of p)) same (start_on_segment (point_of p) (point_of p)));
      least = λ other all. least.least other (λ q on. all q (on_segment_of_same (same_refl (point_of p)) on));
    }

    -- where it has a common point with the box, the position is put in
    pub position_added : (old new : List Entry) (n : Node) → point_at n ≡ point_of p → new ≡ with_sections old n [] → HasCommonPoint box w
        → AddsNear w (IsAtPosition p) old new
    position_added old new n same added common =
        subst (λ (z : Point). AddsNear w (IsAtThe z) old new) same
        (adds_node w old new n [] added
        (subst (λ (z : Point). IsNearBox w z) (sym same) ((near_by_least w box (point_of p) round_position).1 common)))

    -- and else it is far
    pub position_far : (old : List Entry) → ¬ HasCommonPoint box w → AddsNear w (IsAtPosition p) old old
    position_far old apart =
        adds_none w old
        (λ v near at. apart ((near_by_least w box (point_of p) round_position).0 (near_same w (same_sym at) near)))

  -- ---- one step more
  -- a position
  pub position_next : (items points : List Pt) (k : ℕ) (d : Pt) → items ≡ points → k < length items → (old mid new : List Entry)
      → AddsNear w (IsAtPosition (get_or items k d)) mid new → AddsNear w (IsOfBefore IsAtPosition points k) old mid
      → AddsNear w (IsOfBefore IsAtPosition points (k + 1)) old new
  position_next items points k d same below old mid new added h =
      adds_next w IsAtPosition points k (get_or items k d) old mid new (item_at items points k d same below) h added

  -- the first position of a line
  pub start_next : (lines : List (List Pt)) (k : ℕ) (line : List Pt) → IsAtPlace lines k line → (old mid new : List Entry) (p : Pt)
      → IsAtPlace line 0 p → AddsNear w (IsAtPosition p) mid new → AddsNear w (IsOfBefore IsAtFirst lines k) old mid
      → AddsNear w (IsOfBefore IsAtFirst lines (k + 1)) old new
  start_next lines k line is old mid new p first added h =
      adds_next w IsAtFirst lines k line old mid new is h
      (adds_same w (λ v s. (p, first, s)) (λ v near s. subst (λ (q : Pt). IsAtPosition q v) (some_same (sym s.1 ∙ first)) s.2) added)

  -- none, of a line without positions
  pub no_start : (lines : List (List Pt)) (k : ℕ) (line : List Pt) → IsAtPlace lines k line → slice_get line 0 ≡ None
      → (old new : List Entry) → AddsNear w (IsOfBefore IsAtFirst lines k) old new → AddsNear w (IsOfBefore IsAtFirst lines (k + 1)) old new
  no_start lines k line is none old new h =
      adds_next w IsAtFirst lines k line old new new is h (adds_none w new (λ v near s. (let both = sym none ∙ s.1 in cc)))

  -- both ends of an edge
  pub ends_next : (items edges : List Seg) (k : ℕ) (d : Seg) → items ≡ edges → k < length items → (old mid then new : List Entry)
      → AddsNear w (IsAtPosition (get_or items k d).a) mid then → AddsNear w (IsAtPosition (get_or items k d).b) then new
      → AddsNear w (IsOfBefore IsAtEitherEnd edges k) old mid → AddsNear w (IsOfBefore IsAtEitherEnd edges (k + 1)) old new
  ends_next items edges k d same below old mid then new first second h =
      adds_next w IsAtEitherEnd edges k (get_or items k d) old mid new (item_at items edges k d same below) h
      (adds_both w mid then new first second)

  -- the crossings of an edge with those of a figure
  pub crossings_next : (f other : Figure) → other ≡ f → (items edges : List Seg) (k : ℕ) (d : Seg) → items ≡ edges → k < length items
      → (old mid new : List Entry) → AddsNear w (CrossesOne (get_or items k d) (segs_of other)) mid new
      → AddsNear w (IsOfBefore (λ e. CrossesOne e (segs_of f)) edges k) old mid
      → AddsNear w (IsOfBefore (λ e. CrossesOne e (segs_of f)) edges (k + 1)) old new
  crossings_next f other alike items edges k d same below old mid new more h =
      adds_next w (λ e. CrossesOne e (segs_of f)) edges k (get_or items k d) old mid new (item_at items edges k d same below) h
      (subst (λ (z : Figure). AddsNear w (CrossesOne (get_or items k d) (segs_of z)) mid new) alike more)
