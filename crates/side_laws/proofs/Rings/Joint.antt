-- At the joint of two neighbouring edges of a ring the inside goes over to the same hand of the next edge.
use Rattle.std.proofs.Common.{◌≡◌, ◌⊎◌, inl, inr, ℕ, zero, suc, ◌+◌, ◌<◌, ◌≤◌, ℤ, pos, ◌+ℤ◌, ◌-ℤ◌, ◌*ℤ◌, neg_ℤ, ◌<ℤ◌, Bool, true, false}
use Rattle.std.proofs.Common.{not, List, [], ◌∷◌, ap, refl, sym, ◌∙◌, subst, arith}
use Rattle.std.specs.Prelude.{slice_get}
use Rattle.std.proofs.lemmas.Bool.{cases_eq, true≢false}
use Rattle.std.proofs.Math.Bool.{not-not}
use Rattle.whole_algebra.proofs.Laws.{linear}
use Rattle.whole_algebra.proofs.Polynomials.{Poly, var, num, ◌⊕◌, ◌⊖◌, ◌⊗◌, minus, identity}
use Rattle.whole_algebra.proofs.Certificates.{same, scaled, positive, impossible_by, ◌⊞◌, ◌⊠◌}
use Rattle.whole_algebra.proofs.Signs.{by_sign}
use Rattle.plane_laws.proofs.Turns.Turns.{PolyPoint, turn_poly, turn_swap}
use Rattle.plane_laws.proofs.Segments.Mixes.{on_from_strictly_between, mix_of_sums}
use Rattle.plane_laws.proofs.Points.Same.{same_sym}
use Rattle.plane_laws.specs.Plane.{Point, IsSamePoint, IsStrictlyBetween, turn, shift, rise}
use Rattle.plane_exact.specs.Places.{point_of}
use Rattle.plane_laws.specs.Directions.{Direction}
use Rattle.plane_exact.specs.declared.point.Pt.{Pt}
use Rattle.plane_exact.specs.declared.point.Seg.{Seg}
use Rattle.point_set.specs.Rings.{edges_of, is_on_edge, is_inside}
use Rattle.point_set.specs.Shape.{IsClosed}
use Rattle.point_set.specs.Validity.{IsAtPlace, IsOnEdge}
use Rattle.plane_laws.specs.Along.{IsAway, HoldsAlong, IsInCone}
use Rattle.point_set.specs.Sides.{slope}
use Rattle.ring_laws.proofs.Parity.Flip.{HasSign, signed_nonzero}
use Rattle.figure_laws.proofs.Lists.Places.{some_same}
use Rattle.plane_laws.proofs.Near.Parted.{AreParted, off_parted, turn_by, turn_by_is}
use Rattle.plane_laws.proofs.Near.Near.{positive_near, reach_of, IsNear, size_of}
use Rattle.plane_laws.proofs.Near.Away.{away_point, away_point_is, away_near, far_for}
use Rattle.ring_laws.proofs.Germs.Edges.{cone_toward, cross_of, dot_of, squares}
use Rattle.ring_laws.proofs.Germs.Areas.{toward_on}
use Rattle.side_laws.proofs.Edges.Places.{IsSimple, alone_within, alone_at_joint, off_edge}
use Rattle.side_laws.proofs.Edges.Germ.{edge_turn, edge_turn_on, between_not_start, between_not_end}
pub use Rattle.side_laws.proofs.Edges.Germ.{between_flip}
use Rattle.side_laws.proofs.Edges.Beside.{IsBesideAt, HasBesideAt, beside_at, by_hand, left_way, right_way, left_way_slope, right_way_slope}
use Rattle.side_laws.proofs.Edges.Beside.{side_of, still}
use Rattle.side_laws.proofs.Edges.Parted.{ArePartedFrom}
use Rattle.side_laws.proofs.Edges.Strip.{IsBeyond, strip, beyond_by_places, carried_over, turn_between, along_edge}

-- ---- near a point, what doesn't hold it is parted from any two points
record HasPartedRoom (v : Point) (edges : List Seg) : Type 0 where
  n : ℕ
  free : (k : ℕ) → n ≤ k → (p q : Point) → IsNear v k p → IsNear v k q → (j : ℕ) (f : Seg) → IsAtPlace edges j f → is_on_edge v f ≡ false
      → ArePartedFrom p q (point_of f.a) (point_of f.b)

parted_near : {v : Point} (e : Seg) (h : AreParted (point_of e.a) (point_of e.b) v) (k : ℕ) → reach_of h.by v ≤ k → (p q : Point)
    → IsNear v k p → IsNear v k q → ArePartedFrom p q (point_of e.a) (point_of e.b)
parted_near {v} e h k far p q near near' = record {
  by = h.by;
  at_first = positive_near h.by v p k h.positive_at far near;
  at_second = positive_near h.by v q k h.positive_at far near';
  first = h.first;
  second = h.second;
}

room_more : (v : Point) (e : Seg) (edges : List Seg) → HasPartedRoom v edges → (b : Bool) → is_on_edge v e ≡ b → HasPartedRoom v (e ∷ edges)
room_more v e edges rest true on = record { n = rest.n; free = free }
  where
    free : (k : ℕ) → rest.n ≤ k → (p q : Point) → IsNear v k p → IsNear v k q → (j : ℕ) (f : Seg) → IsAtPlace (e ∷ edges) j f
        → is_on_edge v f ≡ false → ArePartedFrom p q (point_of f.a) (point_of f.b)
    free k far p q near near' zero f is off = absurd (true≢false (sym on ∙ ap (is_on_edge v) (some_same is) ∙ off))
    free k far p q near near' (suc j) f is off = rest.free k far p q near near' j f is off
room_more v e edges rest false off_e = record { n = reach_of parted.by v + rest.n; free = free }
  where
    parted : AreParted (point_of e.a) (point_of e.b) v
    parted = off_parted (point_of e.a) (point_of e.b) v off_e

    free : (k : ℕ) → reach_of parted.by v + rest.n ≤ k → (p q : Point) → IsNear v k p → IsNear v k q → (j : ℕ) (f : Seg)
        → IsAtPlace (e ∷ edges) j f → is_on_edge v f ≡ false → ArePartedFrom p q (point_of f.a) (point_of f.b)
    free k far p q near near' zero f is off =
        subst (λ g. ArePartedFrom p q (point_of g.a) (point_of g.b)) (some_same is)
        (parted_near e parted k (omega (arith, far)) p q near near')
    free k far p q near near' (suc j) f is off = rest.free k (omega (arith, far)) p q near near' j f is off

parted_room : (v : Point) (edges : List Seg) → HasPartedRoom v edges
parted_room v [] = record { n = 0; free = λ k far p q near near' j f is off. cc }
parted_room v (e ∷ edges) = room_more v e edges (parted_room v edges) (is_on_edge v e) refl

-- ---- to which side of an edge the points v + d/n are, from some n on
pub record Settles (s : Bool) (e : Seg) (v : Point) (d : Direction) : Type 0 where
  pub from : ℕ
  pub holds : (n : ℕ) → from < n → (p : Point) → IsAway v d n p → HasSign s (edge_turn e p)

pub settles_near : (s : Bool) (e : Seg) (v : Point) (d : Direction) → HasSign s (edge_turn e v) → Settles s e v d
unfolding edge_turn
settles_near true e v d h = record {
  from = far_for d (reach_of (turn_by (point_of e.a) (point_of e.b)) v);
  holds = λ n far p away.
      let f = turn_by (point_of e.a) (point_of e.b) in
      subst (λ z. pos 0 <ℤ z) (turn_by_is (point_of e.a) (point_of e.b) p)
      (positive_near f v p (reach_of f v) (subst (λ z. pos 0 <ℤ z) (sym (turn_by_is (point_of e.a) (point_of e.b) v)) h) (omega arith)
      (away_near (reach_of f v) far away));
}
settles_near false e v d h = record {
  from = far_for d (reach_of (turn_by (point_of e.b) (point_of e.a)) v);
  holds = λ n far p away.
      let f = turn_by (point_of e.b) (point_of e.a) in
      let up : pos 0 <ℤ turn (point_of e.b) (point_of e.a) v = omega (arith, linear, turn_swap (point_of e.a) (point_of e.b) v, h) in
      let near : pos 0 <ℤ turn (point_of e.b) (point_of e.a) p =
      subst (λ z. pos 0 <ℤ z) (turn_by_is (point_of e.b) (point_of e.a) p)
      (positive_near f v p (reach_of f v) (subst (λ z. pos 0 <ℤ z) (sym (turn_by_is (point_of e.b) (point_of e.a) v)) up) (omega arith)
      (away_near (reach_of f v) far away)) in
      omega (arith, linear, turn_swap (point_of e.a) (point_of e.b) p, near);
}

pub settles_along : (s : Bool) (e : Seg) (v : Point) (d : Direction) → edge_turn e v ≡ pos 0 → HasSign s (slope e d) → Settles s e v d
settles_along s e v d on h = record { from = 0; holds = λ n some p away. side_of s e on h some away }

-- ---- from one edge to the next
-- the points to one side of two edges
abbrev IsToSideOf : Bool → Seg → Seg → Point → Type 0
IsToSideOf s e f m = HasSign s (edge_turn e m) × HasSign s (edge_turn f m)

over_joint : (ring : List Pt) → IsClosed ring → IsSimple (edges_of ring) → (i : ℕ) (e f : Seg) → IsAtPlace (edges_of ring) i e
    → IsAtPlace (edges_of ring) (suc i) f → (r : HasPartedRoom (point_of e.b) (edges_of ring)) → (v w : Point)
    → IsNear (point_of e.b) r.n v → IsNear (point_of e.b) r.n w → (s : Bool) (d d' : Direction) → Settles s e v d → Settles s f v d
    → Settles s e w d' → Settles s f w d' → (b : Bool) → HoldsAlong (λ p. is_inside p ring ≡ b) v d
    → HoldsAlong (λ q. is_inside q ring ≡ b) w d'
over_joint ring closed simple i e f is_e is_f r v w near near' s d d' ev fv ew fw b h =
    carried_over ring closed (IsToSideOf s e f) v w d d' b
    (strip (IsToSideOf s e f) v w d d' (edges_of ring)
    (beyond_by_places (IsToSideOf s e f) v w (edges_of ring) (λ j g is_g. by_place j g is_g (cases_eq i j) (cases_eq (suc i) j))))
    h ((ev.from + fv.from) + (ew.from + fw.from))
    (λ n l far far' p q m away away' on. (
      turn_between s e (ev.holds n (omega (arith, far)) p away) (ew.holds l (omega (arith, far')) q away') on,
      turn_between s f (fv.holds n (omega (arith, far)) p away) (fw.holds l (omega (arith, far')) q away') on,
    ))
  where
    off_e : (m : Point) → IsToSideOf s e f m → IsOnEdge e m → ⊥
    off_e m to on = signed_nonzero s (edge_turn e m) to.0 (edge_turn_on e on)

    off_f : (m : Point) → IsToSideOf s e f m → IsOnEdge f m → ⊥
    off_f m to on = signed_nonzero s (edge_turn f m) to.1 (edge_turn_on f on)

    by_place : (j : ℕ) (g : Seg) → IsAtPlace (edges_of ring) j g → (i ≡ j) ⊎ (i ≡ j → ⊥) → (suc i ≡ j) ⊎ (suc i ≡ j → ⊥)
        → IsBeyond (IsToSideOf s e f) v w g
    by_place j g is_g (inl same) other =
        inr (subst (λ k. (m : Point) → IsToSideOf s e f m → IsOnEdge k m → ⊥)
        (some_same (sym is_e ∙ ap (slice_get (edges_of ring)) same ∙ is_g)) off_e)
    by_place j g is_g (inr differ) (inl same) =
        inr (subst (λ k. (m : Point) → IsToSideOf s e f m → IsOnEdge k m → ⊥)
        (some_same (sym is_f ∙ ap (slice_get (edges_of ring)) same ∙ is_g)) off_f)
    by_place j g is_g (inr differ) (inr differ') =
        inl (r.free r.n (omega arith) v w near near' j g is_g
        (off_edge g (point_of e.b) (alone_at_joint simple i j e f g differ differ' is_e is_f is_g)))

-- ---- points of two edges near their joint
abbrev seg : Pt → Pt → Seg
seg a b = record { a = a; b = b }

pub way : (p q : Pt) → ¬ IsSamePoint (point_of p) (point_of q) → Direction
way p q apart = record { x = q.x -ℤ p.x; y = q.y -ℤ p.y; moves = λ h. apart (still (seg p q) h.0 h.1) }

-- strictly between p and q, near p
pub near_start : (p q : Pt) (apart : ¬ IsSamePoint (point_of p) (point_of q)) (n : ℕ) → 0 < n
    → IsStrictlyBetween (point_of p) (point_of q) (away_point (point_of p) (way p q apart) n)
unfolding way away_point
near_start p q apart n some = record {
  s = pos (suc n) -ℤ pos 1;
  t = pos 1;
  mix = mix_of_sums (omega (arith, linear)) (omega (arith, linear))
      (parts (pos (suc n)) p.x q.x) (parts (pos (suc n)) p.y q.y) (ones (pos (suc n)));
  some_first = omega (arith, linear, some);
  some_second = omega (arith, linear);
  apart = apart;
}
  where
    parts : (n x y : ℤ) → pos 1 *ℤ ((x *ℤ n) +ℤ ((y -ℤ x) *ℤ pos 1)) ≡ ((n -ℤ pos 1) *ℤ x) +ℤ (pos 1 *ℤ y)
    parts n x y =
        identity (num (pos 1) ⊗ (var 1 ⊗ var 0 ⊕ (var 2 ⊖ var 1) ⊗ num (pos 1))) ((var 0 ⊖ num (pos 1)) ⊗ var 1 ⊕ num (pos 1) ⊗ var 2)
        (n ∷ x ∷ y ∷ []) refl

    ones : (n : ℤ) → pos 1 *ℤ (pos 1 *ℤ n) ≡ ((n -ℤ pos 1) *ℤ pos 1) +ℤ (pos 1 *ℤ pos 1)
    ones n = identity (num (pos 1) ⊗ (num (pos 1) ⊗ var 0)) ((var 0 ⊖ num (pos 1)) ⊗ num (pos 1) ⊕ num (pos 1) ⊗ num (pos 1)) (n ∷ []) refl

-- a position as polynomials, and the point near the second of three positions that lies towards one of the others
abbrev position : ℕ → PolyPoint
position n = record { x = var n; y = var (suc n); w = num (pos 1) }

abbrev near_second : PolyPoint → PolyPoint
near_second p =
    let b = position 2 in
    record { x = b.x ⊗ var 6 ⊕ (p.x ⊖ b.x) ⊗ num (pos 1); y = b.y ⊗ var 6 ⊕ (p.y ⊖ b.y) ⊗ num (pos 1); w = num (pos 1) ⊗ var 6 }

-- the numbers of three positions, before further values
abbrev numbers : Pt → Pt → Pt → List ℤ → List ℤ
numbers a b c vs = a.x ∷ a.y ∷ b.x ∷ b.y ∷ c.x ∷ c.y ∷ vs

abbrev turn_of_three : Poly
turn_of_three = turn_poly (position 0) (position 2) (position 4)

turn_before : (a b c : Pt) (apart : ¬ IsSamePoint (point_of b) (point_of a)) (n : ℕ)
    → edge_turn (seg b c) (away_point (point_of b) (way b a apart) n) ≡ turn (point_of a) (point_of b) (point_of c)
unfolding edge_turn turn way away_point
turn_before a b c apart n =
    identity (turn_poly (position 2) (position 4) (near_second (position 0))) turn_of_three (numbers a b c (pos (suc n) ∷ [])) refl

turn_after : (a b c : Pt) (apart : ¬ IsSamePoint (point_of b) (point_of c)) (n : ℕ)
    → edge_turn (seg a b) (away_point (point_of b) (way b c apart) n) ≡ turn (point_of a) (point_of b) (point_of c)
unfolding edge_turn turn way away_point
turn_after a b c apart n =
    identity (turn_poly (position 0) (position 2) (near_second (position 4))) turn_of_three (numbers a b c (pos (suc n) ∷ [])) refl

-- ---- two neighbours on one line go on the same way
ahead : Pt → Pt → Pt → ℤ
ahead a b c = ((c.x -ℤ b.x) *ℤ (b.x -ℤ a.x)) +ℤ ((c.y -ℤ b.y) *ℤ (b.y -ℤ a.y))

turn_cross : (a b c : Pt) → turn (point_of a) (point_of b) (point_of c) ≡ ((b.x -ℤ a.x) *ℤ (c.y -ℤ b.y)) -ℤ ((b.y -ℤ a.y) *ℤ (c.x -ℤ b.x))
unfolding turn
turn_cross a b c =
    identity turn_of_three ((var 2 ⊖ var 0) ⊗ (var 5 ⊖ var 3) ⊖ (var 3 ⊖ var 1) ⊗ (var 4 ⊖ var 2))
    (numbers a b c []) refl

no_turn_and_square {ℓ} : {P : Type ℓ} (u v x y : ℤ) → pos 0 <ℤ ((u *ℤ u) +ℤ (v *ℤ v)) → pos 0 <ℤ ((x *ℤ x) +ℤ (y *ℤ y))
    → (u *ℤ y) -ℤ (v *ℤ x) ≡ pos 0 → (x *ℤ u) +ℤ (y *ℤ v) ≡ pos 0 → P
no_turn_and_square {P = P} u v x y hu hx cross dot =
    let c = var 0 ⊗ var 3 ⊖ var 1 ⊗ var 2 in
    let d = var 2 ⊗ var 0 ⊕ var 3 ⊗ var 1 in
    impossible_by {P = P} (u ∷ v ∷ x ∷ y ∷ [])
    (positive (var 0 ⊗ var 0 ⊕ var 1 ⊗ var 1) hu ⊠ positive (var 2 ⊗ var 2 ⊕ var 3 ⊗ var 3) hx
    ⊞ scaled (minus c) (same c (num (pos 0)) cross) ⊞ scaled (minus d) (same d (num (pos 0)) dot)) refl

moved_square : (p q : Pt) → ¬ IsSamePoint (point_of p) (point_of q)
    → pos 0 <ℤ (((q.x -ℤ p.x) *ℤ (q.x -ℤ p.x)) +ℤ ((q.y -ℤ p.y) *ℤ (q.y -ℤ p.y)))
moved_square p q apart = squares (q.x -ℤ p.x) (q.y -ℤ p.y) (λ h. apart (still (seg p q) h.0 h.1))

back_cone : (a b c : Pt) (apart : ¬ IsSamePoint (point_of b) (point_of a)) → turn (point_of a) (point_of b) (point_of c) ≡ pos 0
    → ahead a b c <ℤ pos 0 → IsInCone (point_of b) (way b a apart) (way b a apart) (point_of c)
unfolding way ahead cross_of dot_of rise shift
back_cone a b c apart line back =
    cone_toward (point_of b) (way b a apart) (point_of c)
    (turned a.x a.y b.x b.y c.x c.y ∙ ap neg_ℤ (sym (turn_cross a b c) ∙ line))
    (omega (arith, linear, stepped a.x a.y b.x b.y c.x c.y, back))
  where
    turned : (ax ay bx by cx cy : ℤ) → ((ax -ℤ bx) *ℤ ((cy *ℤ pos 1) -ℤ (by *ℤ pos 1))) -ℤ
        ((ay -ℤ by) *ℤ ((cx *ℤ pos 1) -ℤ (bx *ℤ pos 1))) ≡ neg_ℤ (((bx -ℤ ax) *ℤ (cy -ℤ by)) -ℤ ((by -ℤ ay) *ℤ (cx -ℤ bx)))
    turned ax ay bx by cx cy =
        identity ((var 0 ⊖ var 2) ⊗ (var 5 ⊗ num (pos 1) ⊖ var 3 ⊗ num (pos 1)) ⊖ (var 1 ⊖ var 3) ⊗
        (var 4 ⊗ num (pos 1) ⊖ var 2 ⊗ num (pos 1)))
        (minus ((var 2 ⊖ var 0) ⊗ (var 5 ⊖ var 3) ⊖ (var 3 ⊖ var 1) ⊗ (var 4 ⊖ var 2))) (ax ∷ ay ∷ bx ∷ by ∷ cx ∷ cy ∷ []) refl

    stepped : (ax ay bx by cx cy : ℤ) → ((ax -ℤ bx) *ℤ ((cx *ℤ pos 1) -ℤ (bx *ℤ pos 1))) +ℤ
        ((ay -ℤ by) *ℤ ((cy *ℤ pos 1) -ℤ (by *ℤ pos 1))) ≡ neg_ℤ (((cx -ℤ bx) *ℤ (bx -ℤ ax)) +ℤ ((cy -ℤ by) *ℤ (by -ℤ ay)))
    stepped ax ay bx by cx cy =
        identity ((var 0 ⊖ var 2) ⊗ (var 4 ⊗ num (pos 1) ⊖ var 2 ⊗ num (pos 1)) ⊕ (var 1 ⊖ var 3) ⊗
        (var 5 ⊗ num (pos 1) ⊖ var 3 ⊗ num (pos 1)))
        (minus ((var 4 ⊖ var 2) ⊗ (var 2 ⊖ var 0) ⊕ (var 5 ⊖ var 3) ⊗ (var 3 ⊖ var 1))) (ax ∷ ay ∷ bx ∷ by ∷ cx ∷ cy ∷ []) refl

none_ahead {ℓ} : {P : Type ℓ} (a b c : Pt) → ¬ IsSamePoint (point_of a) (point_of b) → ¬ IsSamePoint (point_of b) (point_of c)
    → turn (point_of a) (point_of b) (point_of c) ≡ pos 0 → ahead a b c ≡ pos 0 → P
unfolding ahead
none_ahead {P = P} a b c apart apart_f line none =
    no_turn_and_square {P = P} (b.x -ℤ a.x) (b.y -ℤ a.y) (c.x -ℤ b.x) (c.y -ℤ b.y) (moved_square a b apart) (moved_square b c apart_f)
    (sym (turn_cross a b c) ∙ line) none

abbrev ahead_poly : Poly
ahead_poly = (var 4 ⊖ var 2) ⊗ (var 2 ⊖ var 0) ⊕ (var 5 ⊖ var 3) ⊗ (var 3 ⊖ var 1)

left_slope_ahead : (a b c : Pt) (apart : ¬ IsSamePoint (point_of a) (point_of b)) → slope (seg b c) (left_way (seg a b) apart) ≡ ahead a b c
unfolding left_way ahead
left_slope_ahead a b c apart =
    identity ((var 4 ⊖ var 2) ⊗ (var 2 ⊖ var 0) ⊖ (var 5 ⊖ var 3) ⊗ minus (var 3 ⊖ var 1)) ahead_poly
    (numbers a b c []) refl

left_slope_back : (a b c : Pt) (apart : ¬ IsSamePoint (point_of b) (point_of c)) → slope (seg a b) (left_way (seg b c) apart) ≡ ahead a b c
unfolding left_way ahead
left_slope_back a b c apart =
    identity ((var 2 ⊖ var 0) ⊗ (var 4 ⊖ var 2) ⊖ (var 3 ⊖ var 1) ⊗ minus (var 5 ⊖ var 3)) ahead_poly
    (numbers a b c []) refl

-- along one direction a set can't hold near v at two values
pub one_value : {f : Point → Bool} {v : Point} {d : Direction} {b c : Bool} → HoldsAlong (λ p. f p ≡ b) v d
    → HoldsAlong (λ p. f p ≡ c) v d → b ≡ c
one_value {f} {v} {d} h k =
    let n = h.from + k.from in
    sym (h.holds (suc n) (omega arith) (away_point v d n) (away_point_is v d n))
    ∙ k.holds (suc n) (omega arith) (away_point v d n) (away_point_is v d n)

pub by_hand_one : (s b c : Bool) → by_hand s b ≡ by_hand s c → b ≡ c
by_hand_one true b c h = h
by_hand_one false b c h = sym (not-not b) ∙ ap not h ∙ not-not c

-- near every point strictly between the ends of an edge the points on its left are inside the ring where b says so
pub record IsBesideAll (ring : List Pt) (e : Seg) (b : Bool) : Type 0 where
  pub at : (v : Point) → IsStrictlyBetween (point_of e.a) (point_of e.b) v → IsBesideAt ring e v b

pub beside_all : (ring : List Pt) → IsClosed ring → IsSimple (edges_of ring) → (i : ℕ) (e : Seg) → IsAtPlace (edges_of ring) i e
    → (v : Point) → IsStrictlyBetween (point_of e.a) (point_of e.b) v → (b : Bool) → IsBesideAt ring e v b → IsBesideAll ring e b
beside_all ring closed simple i e is v between b h = record
    { at = λ w between'. along_edge ring closed simple i e is v w between between' b h }

joint_of : (ring : List Pt) → IsClosed ring → IsSimple (edges_of ring) → (i : ℕ) (a b c : Pt) → IsAtPlace (edges_of ring) i (seg a b)
    → IsAtPlace (edges_of ring) (suc i) (seg b c) → (left : Bool) → IsBesideAll ring (seg a b) left → IsBesideAll ring (seg b c) left
joint_of ring closed simple i a b c is_e is_f left h =
    beside_all ring closed simple (suc i) (seg b c) is_f w between_w left (subst (IsBesideAt ring (seg b c) w) (sym same) has.beside)
  where
    apart : ¬ IsSamePoint (point_of a) (point_of b)
    apart = simple.moving i (seg a b) is_e

    apart' : ¬ IsSamePoint (point_of b) (point_of a)
    apart' k = apart (same_sym k)

    apart_f : ¬ IsSamePoint (point_of b) (point_of c)
    apart_f = simple.moving (suc i) (seg b c) is_f

    r : HasPartedRoom (point_of b) (edges_of ring)
    r = parted_room (point_of b) (edges_of ring)

    n : ℕ
    n = (far_for (way b a apart') r.n + far_for (way b c apart_f) r.n) + 1

    v : Point
    v = away_point (point_of b) (way b a apart') n

    w : Point
    w = away_point (point_of b) (way b c apart_f) n

    near_v : IsNear (point_of b) r.n v
    near_v = away_near r.n (omega arith) (away_point_is (point_of b) (way b a apart') n)

    near_w : IsNear (point_of b) r.n w
    near_w = away_near r.n (omega arith) (away_point_is (point_of b) (way b c apart_f) n)

    between_v : IsStrictlyBetween (point_of a) (point_of b) v
    between_v = between_flip (near_start b a apart' n (omega arith))

    between_w : IsStrictlyBetween (point_of b) (point_of c) w
    between_w = near_start b c apart_f n (omega arith)

    has : HasBesideAt ring (seg b c) w
    has = beside_at ring closed simple (suc i) (seg b c) is_f w between_w

    on_e : edge_turn (seg a b) v ≡ pos 0
    on_e = edge_turn_on (seg a b) (on_from_strictly_between between_v)

    on_f : edge_turn (seg b c) w ≡ pos 0
    on_f = edge_turn_on (seg b c) (on_from_strictly_between between_w)

    by_side : (s : Bool) (d d' : Direction) → HasSign s (slope (seg a b) d) → HasSign s (slope (seg b c) d') → Settles s (seg b c) v d
        → Settles s (seg a b) w d' → left ≡ has.left
    by_side s d d' to to' fv ew =
        by_hand_one s left has.left
        (one_value {f = λ p. is_inside p ring}
        (over_joint ring closed simple i (seg a b) (seg b c) is_e is_f r v w near_v near_w s d d'
        (settles_along s (seg a b) v d on_e to) fv ew (settles_along s (seg b c) w d' on_f to') (by_hand s left)
        ((h.at v between_v).along s d to))
        (has.beside.along s d' to'))

    turned_left : pos 0 <ℤ turn (point_of a) (point_of b) (point_of c) → left ≡ has.left
    turned_left k =
        by_side true (left_way (seg a b) apart) (left_way (seg b c) apart_f) (left_way_slope (seg a b) apart)
        (left_way_slope (seg b c) apart_f)
        (settles_near true (seg b c) v (left_way (seg a b) apart) (subst (λ z. pos 0 <ℤ z) (sym (turn_before a b c apart' n)) k))
        (settles_near true (seg a b) w (left_way (seg b c) apart_f) (subst (λ z. pos 0 <ℤ z) (sym (turn_after a b c apart_f n)) k))

    turned_right : turn (point_of a) (point_of b) (point_of c) <ℤ pos 0 → left ≡ has.left
    turned_right k =
        by_side false (right_way (seg a b) apart) (right_way (seg b c) apart_f) (right_way_slope (seg a b) apart)
        (right_way_slope (seg b c) apart_f)
        (settles_near false (seg b c) v (right_way (seg a b) apart) (subst (λ z. z <ℤ pos 0) (sym (turn_before a b c apart' n)) k))
        (settles_near false (seg a b) w (right_way (seg b c) apart_f) (subst (λ z. z <ℤ pos 0) (sym (turn_after a b c apart_f n)) k))

    straight_on : turn (point_of a) (point_of b) (point_of c) ≡ pos 0 → pos 0 <ℤ ahead a b c → left ≡ has.left
    straight_on line k =
        by_side true (left_way (seg a b) apart) (left_way (seg b c) apart_f) (left_way_slope (seg a b) apart)
        (left_way_slope (seg b c) apart_f)
        (settles_along true (seg b c) v (left_way (seg a b) apart) (turn_before a b c apart' n ∙ line)
        (subst (λ z. pos 0 <ℤ z) (sym (left_slope_ahead a b c apart)) k))
        (settles_along true (seg a b) w (left_way (seg b c) apart_f) (turn_after a b c apart_f n ∙ line)
        (subst (λ z. pos 0 <ℤ z) (sym (left_slope_back a b c apart_f)) k))

    turned_back : turn (point_of a) (point_of b) (point_of c) ≡ pos 0 → ahead a b c <ℤ pos 0 → left ≡ has.left
    turned_back line k =
        let cone = back_cone a b c apart' line k in
        let far = size_of ((cone.times *ℤ (point_of b).w) *ℤ (point_of c).w) + 1 in
        let u = away_point (point_of b) (way b a apart') far in
        let between_u = between_flip (near_start b a apart' far (omega arith)) in
        absurd (alone_within simple i (suc i) (seg a b) (seg b c) (λ z. omega (arith, z)) is_e is_f u (between_not_start between_u)
        (between_not_end between_u)
        (on_from_strictly_between between_u)
        (toward_on (point_of b) (way b a apart') (point_of c) cone (suc far) u (omega arith)
        (away_point_is (point_of b) (way b a apart') far)))

    straight : turn (point_of a) (point_of b) (point_of c) ≡ pos 0 → left ≡ has.left
    straight line = by_sign (ahead a b c) (turned_back line) (stuck line) (straight_on line)
      where
        stuck : turn (point_of a) (point_of b) (point_of c) ≡ pos 0 → ahead a b c ≡ pos 0 → left ≡ has.left
        stuck e z = none_ahead a b c apart apart_f e z

    same : left ≡ has.left
    same = by_sign (turn (point_of a) (point_of b) (point_of c)) turned_right straight turned_left

-- ---- all edges of a ring
next_edge : {edges : List Seg} → IsSimple edges → (i : ℕ) (e f : Seg) → IsAtPlace edges i e → IsAtPlace edges (suc i) f → seg e.b f.b ≡ f
next_edge simple i e f is_e is_f = let h = simple.chained i e f is_e is_f in λ k. record { a = sym h k; b = f.b }

pub to_next_edge : (ring : List Pt) → IsClosed ring → IsSimple (edges_of ring) → (i : ℕ) (e f : Seg) → IsAtPlace (edges_of ring) i e
    → IsAtPlace (edges_of ring) (suc i) f → (left : Bool) → IsBesideAll ring e left → IsBesideAll ring f left
to_next_edge ring closed simple i e f is_e is_f left h =
    let same = next_edge simple i e f is_e is_f in
    subst (λ g. IsBesideAll ring g left) same
    (joint_of ring closed simple i e.a e.b f.b is_e (subst (IsAtPlace (edges_of ring) (suc i)) (sym same) is_f) left h)
