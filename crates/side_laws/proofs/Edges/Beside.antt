-- On one hand of an edge of a ring, near a point strictly between its ends, all points are inside the ring or none is, and on
-- the other hand it is the other way round.
use Rattle.std.proofs.Common.{◌≡◌, ℕ, zero, suc, ◌+◌, ◌<◌, ℤ, pos, ◌+ℤ◌, ◌-ℤ◌, ◌*ℤ◌, neg_ℤ, ◌<ℤ◌, Bool, true, false, not, List, [], ◌∷◌}
use Rattle.std.proofs.Common.{◌++◌, take, drop, ap, refl, sym, ◌∙◌, subst, arith}
use Rattle.std.proofs.Math.Bool.{not-not}
use Rattle.whole_algebra.proofs.Laws.{linear, *ℤ_one}
use Rattle.whole_algebra.proofs.Polynomials.{var, num, ◌⊕◌, ◌⊖◌, ◌⊗◌, minus, identity}
use Rattle.plane_laws.proofs.Segments.Mixes.{start_on_segment}
use Rattle.plane_laws.specs.Plane.{Point, IsSamePoint, IsOnSegment, IsStrictlyBetween}
use Rattle.plane_exact.specs.Places.{point_of}
use Rattle.plane_laws.specs.Directions.{Direction}
use Rattle.plane_exact.specs.declared.point.Pt.{Pt}
use Rattle.plane_exact.specs.declared.point.Seg.{Seg}
use Rattle.point_set.specs.Rings.{edges_of, is_on_edge, is_inside}
use Rattle.point_set.specs.Shape.{IsClosed}
use Rattle.point_set.specs.Validity.{IsAtPlace}
use Rattle.plane_laws.specs.Along.{IsAway, HoldsAlong}
use Rattle.point_set.specs.Sides.{slope}
use Rattle.ring_laws.proofs.Parity.Flip.{HasSign}
use Rattle.ring_laws.proofs.Parity.Ring.{Misses, inside_stays, inside_flips}
use Rattle.figure_laws.proofs.Lists.Places.{some_same}
use Rattle.plane_laws.proofs.Near.Near.{IsNear, near_mix}
use Rattle.ring_laws.proofs.Room.Edges.{HoldBoth, HasRoom, room}
use Rattle.plane_laws.proofs.Near.Away.{away_point, away_point_is, away_near, far_for, between_in_cone}
use Rattle.ring_laws.proofs.Germs.Edges.{AreJoined, squares}
use Rattle.side_laws.proofs.Edges.Places.{IsSimple, off_others_by_places, split_at_place, off_edge}
use Rattle.side_laws.proofs.Edges.Germ.{IsAlone, between_is_alone, sided_joined, cone_side, edge_turn, edge_turn_on}

-- ---- the edge's way, turned a quarter to the left and to the right
pub still : (e : Seg) → e.b.x -ℤ e.a.x ≡ pos 0 → e.b.y -ℤ e.a.y ≡ pos 0 → IsSamePoint (point_of e.a) (point_of e.b)
still e h k = record {
  across = *ℤ_one e.a.x ∙ omega (arith, linear, h) ∙ sym (*ℤ_one e.b.x);
  above = *ℤ_one e.a.y ∙ omega (arith, linear, k) ∙ sym (*ℤ_one e.b.y);
}

unfoldable pub left_way : (e : Seg) → ¬ IsSamePoint (point_of e.a) (point_of e.b) → Direction
left_way e apart = record {
  x = neg_ℤ (e.b.y -ℤ e.a.y);
  y = e.b.x -ℤ e.a.x;
  moves = λ h. apart (still e h.1 (omega (arith, linear, h.0)));
}

unfoldable pub right_way : (e : Seg) → ¬ IsSamePoint (point_of e.a) (point_of e.b) → Direction
right_way e apart = record {
  x = e.b.y -ℤ e.a.y;
  y = neg_ℤ (e.b.x -ℤ e.a.x);
  moves = λ h. apart (still e (omega (arith, linear, h.1)) h.0);
}

left_slope : (x y : ℤ) → (x *ℤ x) -ℤ (y *ℤ neg_ℤ y) ≡ (x *ℤ x) +ℤ (y *ℤ y)
left_slope x y = identity (var 0 ⊗ var 0 ⊖ var 1 ⊗ minus (var 1)) (var 0 ⊗ var 0 ⊕ var 1 ⊗ var 1) (x ∷ y ∷ []) refl

right_slope : (x y : ℤ) → (x *ℤ neg_ℤ x) -ℤ (y *ℤ y) ≡ neg_ℤ ((x *ℤ x) +ℤ (y *ℤ y))
right_slope x y = identity (var 0 ⊗ minus (var 0) ⊖ var 1 ⊗ var 1) (minus (var 0 ⊗ var 0 ⊕ var 1 ⊗ var 1)) (x ∷ y ∷ []) refl

pub left_way_slope : (e : Seg) (apart : ¬ IsSamePoint (point_of e.a) (point_of e.b)) → pos 0 <ℤ slope e (left_way e apart)
unfolding left_way
left_way_slope e apart =
    subst (λ z. pos 0 <ℤ z) (sym (left_slope (e.b.x -ℤ e.a.x) (e.b.y -ℤ e.a.y)))
    (squares (e.b.x -ℤ e.a.x) (e.b.y -ℤ e.a.y) (λ h. apart (still e h.0 h.1)))

pub right_way_slope : (e : Seg) (apart : ¬ IsSamePoint (point_of e.a) (point_of e.b)) → slope e (right_way e apart) <ℤ pos 0
unfolding right_way
right_way_slope e apart =
    let p : pos 0 <ℤ (((e.b.x -ℤ e.a.x) *ℤ (e.b.x -ℤ e.a.x)) +ℤ ((e.b.y -ℤ e.a.y) *ℤ (e.b.y -ℤ e.a.y))) =
    squares (e.b.x -ℤ e.a.x) (e.b.y -ℤ e.a.y) (λ h. apart (still e h.0 h.1)) in
    omega (arith, linear, right_slope (e.b.x -ℤ e.a.x) (e.b.y -ℤ e.a.y), p)

-- ---- the segment from a point on the left to its mirror image on the right
middle : (n x w y : ℤ) → (pos 2 *ℤ n) *ℤ x ≡ (pos 1 *ℤ ((x *ℤ n) +ℤ (neg_ℤ y *ℤ w))) +ℤ (pos 1 *ℤ ((x *ℤ n) +ℤ (y *ℤ w)))
middle n x w y =
    identity ((num (pos 2) ⊗ var 0) ⊗ var 1)
    (num (pos 1) ⊗ (var 1 ⊗ var 0 ⊕ minus (var 3) ⊗ var 2) ⊕ num (pos 1) ⊗ (var 1 ⊗ var 0 ⊕ var 3 ⊗ var 2)) (n ∷ x ∷ w ∷ y ∷ []) refl

middle' : (n x w y : ℤ) → (pos 2 *ℤ n) *ℤ x ≡ (pos 1 *ℤ ((x *ℤ n) +ℤ (y *ℤ w))) +ℤ (pos 1 *ℤ ((x *ℤ n) +ℤ (neg_ℤ y *ℤ w)))
middle' n x w y =
    identity ((num (pos 2) ⊗ var 0) ⊗ var 1)
    (num (pos 1) ⊗ (var 1 ⊗ var 0 ⊕ var 3 ⊗ var 2) ⊕ num (pos 1) ⊗ (var 1 ⊗ var 0 ⊕ minus (var 3) ⊗ var 2)) (n ∷ x ∷ w ∷ y ∷ []) refl

middle_mass : (n w : ℤ) → (pos 2 *ℤ n) *ℤ w ≡ (pos 1 *ℤ (w *ℤ n)) +ℤ (pos 1 *ℤ (w *ℤ n))
middle_mass n w = identity ((num (pos 2) ⊗ var 0) ⊗ var 1) (num (pos 1) ⊗ (var 1 ⊗ var 0) ⊕ num (pos 1) ⊗ (var 1 ⊗ var 0)) (n ∷ w ∷ []) refl

v_between : (e : Seg) (apart : ¬ IsSamePoint (point_of e.a) (point_of e.b)) (v : Point) (n : ℕ)
    → IsOnSegment (away_point v (left_way e apart) n) (away_point v (right_way e apart) n) v
unfolding left_way right_way away_point
v_between e apart v n = record {
  s = pos 1;
  t = pos 1;
  mix = record {
    first = omega (arith, linear);
    second = omega (arith, linear);
    times = pos 2 *ℤ pos (suc n);
    some = omega (arith, linear);
    across = middle (pos (suc n)) v.x v.w (e.b.y -ℤ e.a.y);
    above = middle' (pos (suc n)) v.y v.w (e.b.x -ℤ e.a.x);
    mass = middle_mass (pos (suc n)) v.w;
  };
}

-- near a point of one edge alone no other edge is met
pub held_at : (v p : Point) (edges : List Seg) → HoldBoth v p edges → (j : ℕ) (f : Seg) → IsAtPlace edges j f → is_on_edge v f ≡ false
    → is_on_edge p f ≡ false
held_at v p [] both j f is off = cc
held_at v p (g ∷ edges) both zero f is off = subst (λ h. is_on_edge v h ≡ false → is_on_edge p h ≡ false) (some_same is) both.0 off
held_at v p (g ∷ edges) both (suc j) f is off = held_at v p edges both.1 j f is off

pub others_missed : {edges : List Seg} {i : ℕ} {e : Seg} {v : Point} → IsAlone edges i e v → (r : HasRoom v edges) → (p q : Point)
    → IsNear v r.n p → IsNear v r.n q → Misses p q (take i edges ++ drop (suc i) edges)
others_missed {edges} {i} {e} {v} one r p q near near' = record {
  off = λ m on.
      off_others_by_places m edges i (λ j f apart is.
      held_at v m edges (r.free r.n (omega arith) m (near_mix near near' on)) j f is (off_edge f v (one.alone j f apart is)));
}

pub side_of : (s : Bool) (e : Seg) {v : Point} {d : Direction} {n : ℕ} {p : Point} → edge_turn e v ≡ pos 0 → HasSign s (slope e d) → 0 < n
    → IsAway v d n p → HasSign s (edge_turn e p)
side_of s e {v} {d} {n} {p} on h some away = cone_side s e on h h (between_in_cone some some away away (start_on_segment p p))

flip_at : (ring : List Pt) → IsClosed ring → {i : ℕ} {e : Seg} {v : Point} → IsAlone (edges_of ring) i e v
    → IsStrictlyBetween (point_of e.a) (point_of e.b) v → (apart : ¬ IsSamePoint (point_of e.a) (point_of e.b))
    → (r : HasRoom v (edges_of ring)) → (n : ℕ) → far_for (left_way e apart) r.n < suc n → far_for (right_way e apart) r.n < suc n
    → is_inside (away_point v (left_way e apart) n) ring ≡ not (is_inside (away_point v (right_way e apart) n) ring)
unfolding edge_turn
flip_at ring closed {i} {e} {v} one between apart r n far far' =
    inside_flips ring closed (take i (edges_of ring)) e (drop (suc i) (edges_of ring)) (split_at_place (edges_of ring) i e one.is)
    (away_point v (left_way e apart) n) (away_point v (right_way e apart) n) v
    (side_of true e (edge_turn_on e one.on) (left_way_slope e apart) (omega arith) (away_point_is v (left_way e apart) n))
    (side_of false e (edge_turn_on e one.on) (right_way_slope e apart) (omega arith) (away_point_is v (right_way e apart) n))
    between (v_between e apart v n)
    (others_missed one r (away_point v (left_way e apart) n) (away_point v (right_way e apart) n)
    (away_near r.n far (away_point_is v (left_way e apart) n)) (away_near r.n far' (away_point_is v (right_way e apart) n)))

-- ---- both hands at one point
-- what holds on the hand of a sign, where b holds on the left
abbrev pub by_hand : Bool → Bool → Bool
by_hand true b = b
by_hand false b = not b

-- near v the points on the left of the edge are inside the ring where b says so, and those on the right where it doesn't
pub record IsBesideAt (ring : List Pt) (e : Seg) (v : Point) (b : Bool) : Type 0 where
  pub along : (s : Bool) (d : Direction) → HasSign s (slope e d) → HoldsAlong (λ q. is_inside q ring ≡ by_hand s b) v d

pub record HasBesideAt (ring : List Pt) (e : Seg) (v : Point) : Type 0 where
  pub left : Bool
  pub beside : IsBesideAt ring e v left

settle : (ring : List Pt) → IsClosed ring → {v : Point} {d d' : Direction} (b : Bool) → AreJoined v d d' (edges_of ring) → (n : ℕ)
    → ((l : ℕ) → n < suc l → is_inside (away_point v d' l) ring ≡ b) → HoldsAlong (λ q. is_inside q ring ≡ b) v d
settle ring closed {v} {d} {d'} b j n settled = record {
  from = j.from;
  holds = λ k far p away.
      inside_stays p (away_point v d' (n + j.from)) ring closed
      (j.free k (suc (n + j.from)) far (omega arith) p (away_point v d' (n + j.from)) away (away_point_is v d' (n + j.from)))
      ∙ settled (n + j.from) (omega arith);
}

pub beside_at : (ring : List Pt) → IsClosed ring → IsSimple (edges_of ring) → (i : ℕ) (e : Seg) → IsAtPlace (edges_of ring) i e
    → (v : Point) → IsStrictlyBetween (point_of e.a) (point_of e.b) v → HasBesideAt ring e v
beside_at ring closed simple i e is v between = record { left = left_in; beside = record { along = by_sides } }
  where
    apart : ¬ IsSamePoint (point_of e.a) (point_of e.b)
    apart = simple.moving i e is

    one : IsAlone (edges_of ring) i e v
    one = between_is_alone simple i e is v between

    r : HasRoom v (edges_of ring)
    r = room v (edges_of ring)

    left : Direction
    left = left_way e apart

    right : Direction
    right = right_way e apart

    same : AreJoined v left left (edges_of ring)
    same = sided_joined true one left left (left_way_slope e apart) (left_way_slope e apart)

    left_in : Bool
    left_in = is_inside (away_point v left same.from) ring

    left_settled : (l : ℕ) → same.from < suc l → is_inside (away_point v left l) ring ≡ left_in
    left_settled l far =
        inside_stays (away_point v left l) (away_point v left same.from) ring closed
        (same.free (suc l) (suc same.from) far (omega arith) (away_point v left l) (away_point v left same.from) (away_point_is v left l)
        (away_point_is v left same.from))

    reach : ℕ
    reach = (far_for left r.n + far_for right r.n) + same.from

    right_settled : (l : ℕ) → reach < suc l → is_inside (away_point v right l) ring ≡ not left_in
    right_settled l far =
        sym (not-not (is_inside (away_point v right l) ring))
        ∙ ap not (sym (flip_at ring closed one between apart r l (omega (arith, far)) (omega (arith, far)))
        ∙ left_settled l (omega (arith, far)))

    by_sides : (s : Bool) (d : Direction) → HasSign s (slope e d) → HoldsAlong (λ q. is_inside q ring ≡ by_hand s left_in) v d
    by_sides true d h = settle ring closed left_in (sided_joined true one d left h (left_way_slope e apart)) same.from left_settled
    by_sides false d h = settle ring closed (not left_in) (sided_joined false one d right h (right_way_slope e apart)) reach right_settled
