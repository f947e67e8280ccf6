-- A node that isn't one of the few is inside two edges of a figure without areas, and no edge of the other figure holds it.
use Rattle.std.proofs.Common.{◌≡◌, ◌⊎◌, inl, inr, ℕ, pos, Bool, true, false, List, [], ◌∷◌, refl}
use Rattle.plane_laws.specs.Plane.{Point, IsSamePoint, turn}
use Rattle.plane_exact.specs.Places.{point_of}
use Rattle.plane_exact.specs.declared.point.Seg.{Seg}
use Rattle.point_set.specs.declared.figure.Figure.{Figure}
use Rattle.point_set.specs.Lines.{is_at_some}
use Rattle.point_set.specs.Nodes.{IsCrossing, IsFewNode, segs_of, position, between, of_a}
use Rattle.point_set.specs.Rings.{is_on_edges}
use Rattle.point_set.specs.Shape.{has_item}
use Rattle.point_set.specs.Validity.{IsAtPlace, IsOnEdge}
use Rattle.plane_laws.proofs.Near.Parted.{turn_ends}
use Rattle.plane_laws.proofs.Points.Same.{same_sym}
use Rattle.plane_laws.proofs.Segments.Lines.{three_on_line}
use Rattle.plane_laws.proofs.Segments.On.{on_segment_of_same}
use Rattle.side_laws.proofs.Edges.Places.{off_by_places, off_edge}
use Rattle.node_laws.proofs.Nodes.Decided.{EndsElsewhere, IsOnLineOf, on_line_or_not, cross_only, only_is_end}
use Rattle.node_laws.proofs.Nodes.Positions.{positions_of_both}
use Rattle.few_laws.proofs.Nodes.Decided.{first_elsewhere, second_elsewhere}

-- ---- edges on one line
-- two edges on the line of a third are on one line, where each of the three has two ends
lines_joined :
    (e f g : Seg) → ¬ IsSamePoint (point_of e.a) (point_of e.b) → ¬ IsSamePoint (point_of f.a) (point_of f.b)
    → ¬ IsSamePoint (point_of g.a) (point_of g.b) → IsOnLineOf e g → IsOnLineOf f g → IsOnLineOf e f
lines_joined e f g moves_e moves_f moves_g on_e on_f =
    let ends = turn_ends (point_of f.a) (point_of f.b) in
    (level (point_of f.a) ends.0, level (point_of f.b) ends.1)
  where
    of_e : (p : Point) → turn (point_of e.a) (point_of e.b) p ≡ pos 0 → turn (point_of g.a) (point_of g.b) p ≡ pos 0
    of_e p z = three_on_line (point_of e.a) (point_of e.b) (point_of g.a) (point_of g.b) p moves_e on_e.0 on_e.1 z

    of_f : (p : Point) → turn (point_of f.a) (point_of f.b) p ≡ pos 0 → turn (point_of g.a) (point_of g.b) p ≡ pos 0
    of_f p z = three_on_line (point_of f.a) (point_of f.b) (point_of g.a) (point_of g.b) p moves_f on_f.0 on_f.1 z

    level : (p : Point) → turn (point_of f.a) (point_of f.b) p ≡ pos 0 → turn (point_of e.a) (point_of e.b) p ≡ pos 0
    level p z =
        let ends = turn_ends (point_of e.a) (point_of e.b) in
        three_on_line (point_of g.a) (point_of g.b) (point_of e.a) (point_of e.b) p moves_g
        (of_e (point_of e.a) ends.0) (of_e (point_of e.b) ends.1) (of_f p z)

-- an edge that holds a point which isn't its end has two ends
edge_moves : {v : Point} (e : Seg) → EndsElsewhere v e → IsOnEdge e v → ¬ IsSamePoint (point_of e.a) (point_of e.b)
edge_moves e ends on h = ends.0 (same_sym (on_segment_of_same h on))

-- ---- what is left out
-- v is on an edge of the first figure, which has no areas, and on no edge of the second; it is at no position, and not one of the few
pub record IsLeftOut (a b : Figure) (v : Point) : Type 0 where
  pub i : ℕ
  pub e : Seg
  pub e_is : IsAtPlace (segs_of a) i e
  pub on : IsOnEdge e v
  pub bare : a.areas ≡ []
  pub off : is_on_edges v (segs_of b) ≡ false
  pub nowhere : is_at_some v (positions_of_both a b) ≡ false
  pub not_few : ¬ IsFewNode a b v

-- a list without an item is empty
none_empty : {X : Type 0} (xs : List X) → ¬ (has_item xs ≡ true) → xs ≡ []
none_empty [] none = refl
none_empty (x ∷ xs) none = absurd (none refl)

-- what isn't one of the few is at no position
pub nowhere_few : (a b : Figure) (v : Point) → ¬ IsFewNode a b v → is_at_some v (positions_of_both a b) ≡ false
nowhere_few a b v not_few = by_test (is_at_some v (positions_of_both a b)) refl
  where
    by_test : (t : Bool) → is_at_some v (positions_of_both a b) ≡ t → is_at_some v (positions_of_both a b) ≡ false
    by_test true at = absurd (not_few (position at))
    by_test false at = at

module _ (a b : Figure) (v : Point) (not_few : ¬ IsFewNode a b v) (c : IsCrossing (segs_of a) (segs_of a) v) where
  -- v is at no position
  nowhere : is_at_some v (positions_of_both a b) ≡ false
  nowhere = nowhere_few a b v not_few

  -- an edge of the second figure that holds v is on the line of each edge of the first that does: else v would be their crossing
  on_line : (i : ℕ) (e : Seg) → IsAtPlace (segs_of a) i e → IsOnEdge e v → (j : ℕ) (g : Seg) → IsAtPlace (segs_of b) j g → IsOnEdge g v
      → IsOnLineOf e g
  on_line i e e_is on j g g_is on_g = by_line (on_line_or_not e g)
    where
      by_line : IsOnLineOf e g ⊎ (¬ IsOnLineOf e g) → IsOnLineOf e g
      by_line (inl h) = h
      by_line (inr n) =
          absurd (not_few (between (record {
            i = i;
            j = j;
            e = e;
            f = g;
            e_is = e_is;
            f_is = g_is;
            meet = cross_only (record { on_e = on; on_f = on_g; apart = n });
          })))

  -- so it would join the lines of the two edges that cross at v
  other_off : (j : ℕ) (g : Seg) → IsAtPlace (segs_of b) j g → ¬ IsOnEdge g v
  other_off j g g_is on_g =
      let at_e = first_elsewhere a b v nowhere c.i c.e c.e_is in
      let at_f = first_elsewhere a b v nowhere c.j c.f c.f_is in
      let at_g = second_elsewhere a b v nowhere j g g_is in
      only_is_end at_e.0 at_e.1 at_f.0
      (lines_joined c.e c.f g (edge_moves c.e at_e c.meet.on_e) (edge_moves c.f at_f c.meet.on_f) (edge_moves g at_g on_g)
      (on_line c.i c.e c.e_is c.meet.on_e j g g_is on_g) (on_line c.j c.f c.f_is c.meet.on_f j g g_is on_g))
      c.meet

  -- and v is left out
  pub left_out_of : IsLeftOut a b v
  left_out_of = record {
    i = c.i;
    e = c.e;
    e_is = c.e_is;
    on = c.meet.on_e;
    bare = none_empty a.areas (λ some. not_few (of_a some c));
    off = off_by_places v (segs_of b) (λ j g g_is. off_edge g v (other_off j g g_is));
    nowhere = nowhere;
    not_few = not_few;
  }
