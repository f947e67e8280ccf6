-- A node is decided: a position is one, and else a point on two edges that aren't on one line.
use Rattle.std.proofs.Common.{◌≡◌, ◌⊎◌, inl, inr, pos, Bool, true, false, List, refl, sym, ◌∙◌}
use Rattle.std.proofs.lemmas.Bool.{true≢false}
use Rattle.plane_laws.proofs.Segments.Mixes.{segment_same, start_on_segment}
use Rattle.plane_laws.proofs.Points.Same.{same_refl, same_sym, same_trans}
use Rattle.plane_laws.specs.Plane.{Point, IsSamePoint, turn}
use Rattle.plane_exact.specs.Places.{point_of}
use Rattle.plane_exact.specs.declared.point.Seg.{Seg}
use Rattle.ring_laws.proofs.Germs.Areas.{segment_within}
use Rattle.ring_laws.proofs.Germs.Edges.{on_true}
use Rattle.figure_laws.proofs.Points.Same.{is_at_some-same}
use Rattle.point_set.specs.declared.figure.Figure.{Figure}
use Rattle.point_set.specs.Lines.{is_at_some}
use Rattle.point_set.specs.Rings.{is_on_edge}
use Rattle.point_set.specs.Validity.{IsAtPlace, IsOnEdge}
use Rattle.point_set.specs.Nodes.{IsNode, IsCrossing, IsOnlyCommonPoint, position, crossing, segs_of_both}
use Rattle.node_laws.specs.Seen.{LawNodeIsDecided}
use Rattle.node_laws.proofs.Nodes.Edges.{edge_true}
use Rattle.figure_laws.proofs.Lists.Items.{Each}
use Rattle.figure_laws.proofs.Lists.Least.{SomeItem, some_or_not}
use Rattle.meeting_laws.proofs.Ways.OneLine.{zero_or_not, same_or_not, another, one_line}
use Rattle.node_laws.proofs.Nodes.Positions.{IsAtOne, positions_of_both, ends_are_positions}

-- the second edge is on the line of the first
abbrev pub IsOnLineOf : Seg → Seg → Type 0
IsOnLineOf e f = (turn (point_of e.a) (point_of e.b) (point_of f.a) ≡ pos 0) × (turn (point_of e.a) (point_of e.b) (point_of f.b) ≡ pos 0)

-- which is decided
pub on_line_or_not : (e f : Seg) → IsOnLineOf e f ⊎ (¬ IsOnLineOf e f)
on_line_or_not e f = go (zero_or_not (turn (point_of e.a) (point_of e.b) (point_of f.a)))
    (zero_or_not (turn (point_of e.a) (point_of e.b) (point_of f.b)))
  where
    go : (turn (point_of e.a) (point_of e.b) (point_of f.a) ≡ pos 0) ⊎ (¬ (turn (point_of e.a) (point_of e.b) (point_of f.a) ≡ pos 0))
        → (turn (point_of e.a) (point_of e.b) (point_of f.b) ≡ pos 0) ⊎ (¬ (turn (point_of e.a) (point_of e.b) (point_of f.b) ≡ pos 0))
        → IsOnLineOf e f ⊎ (¬ IsOnLineOf e f)
    go (inl h) (inl k) = inl (h, k)
    go (inl h) (inr n) = inr (λ l. n l.1)
    go (inr n) other = inr (λ l. n l.0)

-- and so is whether a point is on an edge
pub on_edge_or_not : (p : Point) (e : Seg) → IsOnEdge e p ⊎ (¬ IsOnEdge e p)
on_edge_or_not p e = go (is_on_edge p e) refl
  where
    go : (b : Bool) → is_on_edge p e ≡ b → IsOnEdge e p ⊎ (¬ IsOnEdge e p)
    go true h = inl (on_true h)
    go false h = inr (λ on. true≢false (sym (edge_true e on) ∙ h))

-- ---- two edges through a point
-- the point is on both, and they aren't on one line
pub record Cross (p : Point) (e f : Seg) : Type 0 where
  pub on_e : IsOnEdge e p
  pub on_f : IsOnEdge f p
  pub apart : ¬ IsOnLineOf e f

-- which is decided
pub cross_or_not : (p : Point) (e f : Seg) → Cross p e f ⊎ (¬ Cross p e f)
cross_or_not p e f = go (on_edge_or_not p e) (on_edge_or_not p f) (on_line_or_not e f)
  where
    go : IsOnEdge e p ⊎ (¬ IsOnEdge e p) → IsOnEdge f p ⊎ (¬ IsOnEdge f p) → IsOnLineOf e f ⊎ (¬ IsOnLineOf e f) → Cross p e f
        ⊎ (¬ Cross p e f)
    go (inl h) (inl k) (inr n) = inl (record { on_e = h; on_f = k; apart = n })
    go (inr n) k l = inr (λ c. n c.on_e)
    go (inl h) (inr n) l = inr (λ c. n c.on_f)
    go (inl h) (inl k) (inl l) = inr (λ c. c.apart l)

-- then it is their only common point
pub cross_only : {p : Point} {e f : Seg} → Cross p e f → IsOnlyCommonPoint e f p
cross_only {p} {e} {f} c = record { on_e = c.on_e; on_f = c.on_f; only = λ q on_e on_f. only q on_e on_f (same_or_not q p) }
  where
    only : (q : Point) → IsOnEdge e q → IsOnEdge f q → IsSamePoint q p ⊎ (¬ IsSamePoint q p) → IsSamePoint q p
    only q on_e on_f (inl s) = s
    only q on_e on_f (inr n) = absurd (c.apart (one_line (point_of e.a) (point_of e.b) (point_of f.a) (point_of f.b) q p n on_e c.on_e
        on_f c.on_f))

-- the only common point of two edges on one line is an end of one of them
pub only_is_end : {p : Point} {e f : Seg} → ¬ IsSamePoint p (point_of e.a) → ¬ IsSamePoint p (point_of e.b) → ¬ IsSamePoint p (point_of f.a)
    → IsOnLineOf e f → ¬ IsOnlyCommonPoint e f p
only_is_end {p} {e} {f} not_a not_b not_f line c =
    let m = another (point_of e.a) (point_of e.b) (point_of f.a) p c.on_e not_a not_b (λ s. not_f (same_sym s)) line.0 in
    m.apart (c.only m.m m.on_first (segment_within (start_on_segment (point_of f.a) (point_of f.b)) c.on_f m.on_second))

-- ---- edges of which none ends at a point
-- neither end of an edge is p
abbrev pub EndsElsewhere : Point → Seg → Type 0
EndsElsewhere p e = (¬ IsSamePoint p (point_of e.a)) × (¬ IsSamePoint p (point_of e.b))

-- two such edges of which it is the only common point aren't on one line
pub crossing_apart : (p : Point) (edges others : List Seg) → Each (EndsElsewhere p) edges → Each (EndsElsewhere p) others
    → (c : IsCrossing edges others p) → ¬ IsOnLineOf c.e c.f
crossing_apart p edges others off off' c line =
    let at_e = off c.i c.e c.e_is in
    let at_f = off' c.j c.f c.f_is in
    only_is_end at_e.0 at_e.1 at_f.0 line c.meet

-- of such edges it is decided whether two cross at p
pub crossing_decided : (p : Point) (edges others : List Seg) → Each (EndsElsewhere p) edges → Each (EndsElsewhere p) others
    → IsCrossing edges others p ⊎ (¬ IsCrossing edges others p)
crossing_decided p edges others off off' =
    by_pair (some_or_not (λ e. SomeItem (Cross p e) others) (λ e. some_or_not (Cross p e) (cross_or_not p e) others) edges)
  where
    by_pair : SomeItem (λ e. SomeItem (Cross p e) others) edges ⊎ (¬ SomeItem (λ e. SomeItem (Cross p e) others) edges)
        → IsCrossing edges others p ⊎ (¬ IsCrossing edges others p)
    by_pair (inl s) = inl (record {
      i = s.place;
      j = s.is_so.place;
      e = s.item;
      f = s.is_so.item;
      e_is = s.item_is;
      f_is = s.is_so.item_is;
      meet = cross_only s.is_so.is_so;
    })
    by_pair (inr none) = inr (λ c. none (record {
      place = c.i;
      item = c.e;
      item_is = c.e_is;
      is_so = record {
        place = c.j;
        item = c.f;
        item_is = c.f_is;
        is_so = record { on_e = c.meet.on_e; on_f = c.meet.on_f; apart = crossing_apart p edges others off off' c };
      };
    }))

-- ---- a point at no position
module _ (a b : Figure) (p : Point) (nowhere : is_at_some p (positions_of_both a b) ≡ false) where
  -- p isn't at any of the positions
  not_at : {q : _} → IsAtOne (positions_of_both a b) q → ¬ IsSamePoint p (point_of q)
  not_at {q} at s = true≢false (sym at ∙ sym (is_at_some-same s (positions_of_both a b)) ∙ nowhere)

  -- no end of an edge is there
  pub not_an_end : Each (EndsElsewhere p) (segs_of_both a b)
  not_an_end i e is = let ends = ends_are_positions a b i e is in (not_at ends.0, not_at ends.1)

  -- p is a node exactly where two edges cross there
  decided : IsNode a b p ⊎ (¬ IsNode a b p)
  decided = by_crossing (crossing_decided p (segs_of_both a b) (segs_of_both a b) not_an_end not_an_end)
    where
      by_crossing : IsCrossing (segs_of_both a b) (segs_of_both a b) p ⊎ (¬ IsCrossing (segs_of_both a b) (segs_of_both a b) p)
          → IsNode a b p ⊎ (¬ IsNode a b p)
      by_crossing (inl c) = inl (crossing c)
      by_crossing (inr none) = inr refute
        where
          refute : ¬ IsNode a b p
          refute (position at) = true≢false (sym at ∙ nowhere)
          refute (crossing c) = none c

-- whether a point is a node is decided
pub node_is_decided : LawNodeIsDecided
node_is_decided a b p = go (is_at_some p (positions_of_both a b)) refl
  where
    go : (t : Bool) → is_at_some p (positions_of_both a b) ≡ t → IsNode a b p ⊎ (¬ IsNode a b p)
    go true at = inl (position at)
    go false at = decided a b p at

-- ---- a node is said of the point and not of its triple
pub node_same : (a b : Figure) {v w : Point} → IsSamePoint v w → IsNode a b v → IsNode a b w
node_same a b {v} {w} s (position at) = position (sym (is_at_some-same s (positions_of_both a b)) ∙ at)
node_same a b {v} {w} s (crossing c) = crossing (record {
  i = c.i;
  j = c.j;
  e = c.e;
  f = c.f;
  e_is = c.e_is;
  f_is = c.f_is;
  meet = record {
    on_e = segment_same (same_refl (point_of c.e.a)) (same_refl (point_of c.e.b)) s c.meet.on_e;
    on_f = segment_same (same_refl (point_of c.f.a)) (same_refl (point_of c.f.b)) s c.meet.on_f;
    only = λ q on_e on_f. same_trans (c.meet.only q on_e on_f) s;
  };
})
