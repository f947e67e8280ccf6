-- The ray from the middle of an edge, and what the count of crossings there says of the whole ring.
use Rattle.std.proofs.Common.{◌≡◌, ℕ, ℤ, pos, ◌+ℤ◌, ◌-ℤ◌, ◌*ℤ◌, neg_ℤ, ◌<ℤ◌, ◌≤ℤ◌, Bool, true, false, ◌&&◌, ◌||◌, List, [], ◌∷◌, ap, refl}
use Rattle.std.proofs.Common.{sym, ◌∙◌, subst, arith}
use mathlib.Core.Bool.{beq}
use Rattle.std.specs.Prelude.{None, not, slice_get, int_lt, int_le}
use Rattle.std.specs.Bool.{MatchBool}
use Rattle.std.specs.Ordering.{int_eq}
use Rattle.std.proofs.lemmas.Bool.Decides.{Decides-int_eq, not_from_Decides}
use lib.IntN.{*ℤ-zero}
use Rattle.whole_algebra.proofs.Laws.{linear, *ℤ_one}
use Rattle.whole_algebra.proofs.Polynomials.{var, num, ◌⊕◌, ◌⊗◌, identity}
use Rattle.whole_algebra.proofs.Signs.{by_order}
use Rattle.plane_laws.proofs.Turns.Turns.{PolyPoint, turn_poly}
use Rattle.plane_laws.specs.Plane.{IsSamePoint, IsStrictlyBetween, turn}
use Rattle.plane_exact.specs.Places.{point_of}
use Rattle.plane_laws.specs.Directions.{Direction}
use Rattle.plane_exact.specs.declared.point.Pt.{Pt}
use Rattle.plane_exact.specs.declared.point.Seg.{Seg}
use Rattle.point_set.specs.declared.edge.Hand.TheVariants as hand
use Rattle.point_set.specs.Rings.{edges_of, is_low, is_odd}
use Rattle.point_set.specs.Shape.{IsClosed}
use Rattle.point_set.specs.Validity.{IsAtPlace, CrossesItself}
use Rattle.point_set.specs.Sides.{slope, IsInsideHand}
use Rattle.ring_laws.proofs.Parity.Tests.{tells_lt, tells_le, same_tests}
use Rattle.ring_laws.proofs.Parity.Flip.{HasSign, crossing_of}
use Rattle.figure_laws.proofs.Lists.Places.{some_same}
use Rattle.side_laws.proofs.Edges.Places.{ring_is_simple}
use Rattle.side_laws.proofs.Edges.Beside.{by_hand, beside_at}
use Rattle.side_laws.proofs.Rings.Joint.{IsBesideAll, beside_all}
use Rattle.side_laws.proofs.Rings.Hand.{hand_by, inside_hand, all_from_first}
use Rattle.side_laws.proofs.Rings.Ray.{IsRay, ray_counts}
use Rattle.ring_sides.specs.Middles.{middle_of, is_ray_left}

-- ---- the middle is strictly between the ends
half : (x y : ℤ) → pos 1 *ℤ (x +ℤ y) ≡ (pos 1 *ℤ x) +ℤ (pos 1 *ℤ y)
half x y = identity (num (pos 1) ⊗ (var 0 ⊕ var 1)) (num (pos 1) ⊗ var 0 ⊕ num (pos 1) ⊗ var 1) (x ∷ y ∷ []) refl

middle_between : (e : Seg) → ¬ IsSamePoint (point_of e.a) (point_of e.b) → IsStrictlyBetween (point_of e.a) (point_of e.b) (middle_of e)
middle_between e apart = record {
  s = pos 1;
  t = pos 1;
  mix = record {
    first = omega (arith, linear);
    second = omega (arith, linear);
    times = pos 1;
    some = omega (arith, linear);
    across = half e.a.x e.b.x;
    above = half e.a.y e.b.y;
    mass = half (pos 1) (pos 1);
  };
  some_first = omega (arith, linear);
  some_second = omega (arith, linear);
  apart = apart;
}

-- the turn of the middle is the sum of those of the ends
pub turn_of_middle :
    (a b : Pt) (e : Seg)
    → turn (point_of a) (point_of b) (middle_of e) ≡ turn (point_of a) (point_of b) (point_of e.a) +ℤ turn (point_of a) (point_of b)
    (point_of e.b)
unfolding turn
turn_of_middle a b e =
    let pa : PolyPoint = record { x = var 0; y = var 1; w = num (pos 1) } in
    let pb : PolyPoint = record { x = var 2; y = var 3; w = num (pos 1) } in
    let pc : PolyPoint = record { x = var 4; y = var 5; w = num (pos 1) } in
    let pd : PolyPoint = record { x = var 6; y = var 7; w = num (pos 1) } in
    let pm : PolyPoint = record { x = var 4 ⊕ var 6; y = var 5 ⊕ var 7; w = num (pos 2) } in
    identity (turn_poly pa pb pm) (turn_poly pa pb pc ⊕ turn_poly pa pb pd)
    (a.x ∷ a.y ∷ b.x ∷ b.y ∷ e.a.x ∷ e.a.y ∷ e.b.x ∷ e.b.y ∷ []) refl

-- ---- the ray
not_one : pos 1 ≡ pos 0 → ⊥
not_one h = omega (arith, linear, h)

rightward : Direction
rightward = record { x = pos 1; y = pos 0; moves = λ h. not_one h.0 }

upward : Direction
upward = record { x = pos 0; y = pos 1; moves = λ h. not_one h.1 }

low_is :
    (p v : ℤ) (b : Bool) → MatchBool b ((v *ℤ pos 2) ≤ℤ (p *ℤ pos 1)) ((p *ℤ pos 1) <ℤ (v *ℤ pos 2)) → int_le (v *ℤ pos 2) (p *ℤ pos 1) ≡ b
low_is p v b h =
    same_tests (int_le (v *ℤ pos 2) (p *ℤ pos 1)) b (tells_le (v *ℤ pos 2) (p *ℤ pos 1)) h
    (λ l k. clash ((v *ℤ pos 2)) ((p *ℤ pos 1)) l k) (λ l k. clash ((v *ℤ pos 2)) ((p *ℤ pos 1)) k l)
  where
    clash : (x y : ℤ) → x ≤ℤ y → y <ℤ x → ⊥
    clash x y l k = omega (arith, linear, l, k)

twice : (v : ℤ) → v *ℤ pos 2 ≡ v +ℤ v
twice v = identity (var 0 ⊗ num (pos 2)) (var 0 ⊕ var 0) (v ∷ []) refl

record HasRay (e : Seg) : Type 0 where
  d : Direction
  is : IsRay e (middle_of e) (is_ray_left e) d

right_slope : (u v : ℤ) → (u *ℤ pos 0) -ℤ (v *ℤ pos 1) ≡ neg_ℤ v
right_slope u v = omega (arith, linear, *ℤ-zero u, *ℤ_one v)

up_slope : (u v : ℤ) → (u *ℤ pos 1) -ℤ (v *ℤ pos 0) ≡ u
up_slope u v = omega (arith, linear, *ℤ-zero v, *ℤ_one u)

-- to the right of an edge that isn't level, on its left where it falls
steep_ray : (e : Seg) (s : Bool) → MatchBool s (e.b.y <ℤ e.a.y) (e.a.y <ℤ e.b.y) → IsRay e (middle_of e) s rightward
unfolding rightward
steep_ray e s steep =
    let ends = ends_of s steep in
    record {
      up = omega (arith, linear);
      side = ends.2;
      uncrossed = (λ i. crossing_of (ends.0 i) (ends.1 i) s) ∙ not_both s;
    }
  where
    not_both : (s : Bool) → crossing_of (not s) s s ≡ false
    not_both true = refl
    not_both false = refl

    low_end :
        (v : ℤ) (b : Bool) → MatchBool b ((v +ℤ v) ≤ℤ (e.a.y +ℤ e.b.y)) ((e.a.y +ℤ e.b.y) <ℤ (v +ℤ v))
        → int_le (v *ℤ pos 2) ((e.a.y +ℤ e.b.y) *ℤ pos 1) ≡ b
    low_end v true h = low_is (e.a.y +ℤ e.b.y) v true (omega (arith, linear, twice v, *ℤ_one (e.a.y +ℤ e.b.y), h))
    low_end v false h = low_is (e.a.y +ℤ e.b.y) v false (omega (arith, linear, twice v, *ℤ_one (e.a.y +ℤ e.b.y), h))

    ends_of :
        (s : Bool) → MatchBool s (e.b.y <ℤ e.a.y) (e.a.y <ℤ e.b.y) →
        (is_low (middle_of e) (point_of e.a) ≡ not s) × (is_low (middle_of e) (point_of e.b) ≡ s) × HasSign s (slope e rightward)
    ends_of true falls = (
      low_end e.a.y false (omega (arith, linear, falls)),
      low_end e.b.y true (omega (arith, linear, falls)),
      omega (arith, linear, falls, right_slope (e.b.x -ℤ e.a.x) (e.b.y -ℤ e.a.y)),
    )
    ends_of false rises = (
      low_end e.a.y true (omega (arith, linear, rises)),
      low_end e.b.y false (omega (arith, linear, rises)),
      omega (arith, linear, rises, right_slope (e.b.x -ℤ e.a.x) (e.b.y -ℤ e.a.y)),
    )

level_ray : (e : Seg) (s : Bool) → e.b.y ≡ e.a.y → HasSign s (e.b.x -ℤ e.a.x) → IsRay e (middle_of e) s upward
unfolding upward
level_ray e s level way = record {
  up = omega (arith, linear);
  side = subst (HasSign s) (sym (up_slope (e.b.x -ℤ e.a.x) (e.b.y -ℤ e.a.y))) way;
  uncrossed =
      ap (λ z. crossing_of (int_le (e.a.y *ℤ pos 2) ((e.a.y +ℤ e.b.y) *ℤ pos 1)) (int_le (z *ℤ pos 2) ((e.a.y +ℤ e.b.y) *ℤ pos 1)) s) level
      ∙ same_height (int_le (e.a.y *ℤ pos 2) ((e.a.y +ℤ e.b.y) *ℤ pos 1)) s;
}
  where
    same_height : (b s : Bool) → crossing_of b b s ≡ false
    same_height true s = refl
    same_height false s = refl

ray_of : (e : Seg) → ¬ IsSamePoint (point_of e.a) (point_of e.b) → HasRay e
ray_of e apart = by_fall (int_lt e.b.y e.a.y) refl (tells_lt e.b.y e.a.y)
  where
    test_is : (x y z : Bool) → int_lt e.b.y e.a.y ≡ x → int_eq e.b.y e.a.y ≡ y → int_lt e.a.x e.b.x ≡ z → is_ray_left e ≡ (x || (y && z))
    test_is x y z h k l = λ i. h i || (k i && l i)

    still : e.b.y ≡ e.a.y → e.b.x ≡ e.a.x → ⊥
    still h k = apart (record {
      across = ap (λ z. z *ℤ pos 1) (sym k);
      above = ap (λ z. z *ℤ pos 1) (sym h);
    })

    by_way :
        (z : Bool) → int_lt e.a.x e.b.x ≡ z → MatchBool z (e.a.x <ℤ e.b.x) (e.b.x ≤ℤ e.a.x) → int_lt e.b.y e.a.y ≡ false
        → int_eq e.b.y e.a.y ≡ true → e.b.y ≡ e.a.y → HasRay e
    by_way true l way h k level = record {
      d = upward;
      is =
          subst (λ s. IsRay e (middle_of e) s upward) (sym (test_is false true true h k l))
          (level_ray e true level (omega (arith, linear, way)));
    }
    by_way false l way h k level = record {
      d = upward;
      is =
          subst (λ s. IsRay e (middle_of e) s upward) (sym (test_is false true false h k l))
          (level_ray e false level (back way (still level)));
    }
      where
        back : e.b.x ≤ℤ e.a.x → (e.b.x ≡ e.a.x → ⊥) → (e.b.x -ℤ e.a.x) <ℤ pos 0
        back w n = by_order e.b.x e.a.x (λ p. omega (arith, linear, p)) (λ p. absurd (n p)) (λ p. omega (arith, linear, p, w))

    by_level : (y : Bool) → int_eq e.b.y e.a.y ≡ y → int_lt e.b.y e.a.y ≡ false → e.a.y ≤ℤ e.b.y → HasRay e
    by_level true k h low = by_way (int_lt e.a.x e.b.x) refl (tells_lt e.a.x e.b.x) h k ((Decides-int_eq e.b.y e.a.y).0 k)
    by_level false k h low = record {
      d = rightward;
      is = subst (λ s. IsRay e (middle_of e) s rightward) (sym (test_is false false (int_lt e.a.x e.b.x) h k refl))
          (steep_ray e false (climbs low (not_from_Decides (int_eq e.b.y e.a.y) (Decides-int_eq e.b.y e.a.y) k)));
    }
      where
        climbs : e.a.y ≤ℤ e.b.y → ¬ (e.b.y ≡ e.a.y) → e.a.y <ℤ e.b.y
        climbs w n = by_order e.a.y e.b.y (λ p. p) (λ p. absurd (n (sym p))) (λ p. omega (arith, linear, p, w))

    by_fall : (x : Bool) → int_lt e.b.y e.a.y ≡ x → MatchBool x (e.b.y <ℤ e.a.y) (e.a.y ≤ℤ e.b.y) → HasRay e
    by_fall true h falls = record {
      d = rightward;
      is =
          subst (λ s. IsRay e (middle_of e) s rightward) (sym (test_is true (int_eq e.b.y e.a.y) (int_lt e.a.x e.b.x) h refl refl))
          (steep_ray e true falls);
    }
    by_fall false h low = by_level (int_eq e.b.y e.a.y) refl h low

-- ---- the hand of the inside, by the first edge
side_by_count :
    (ring : List Pt) → IsClosed ring → ¬ CrossesItself ring → (e : Seg) → IsAtPlace (edges_of ring) 0 e
    → IsInsideHand ring (hand_by (by_hand (is_ray_left e) (is_odd (middle_of e) (edges_of ring))))
side_by_count ring closed uncrossed e is =
    let simple = ring_is_simple ring closed uncrossed in
    let apart = simple.moving 0 e is in
    let between = middle_between e apart in
    let has = beside_at ring closed simple 0 e is (middle_of e) between in
    let ray = ray_of e apart in
    let same = ray_counts ring simple 0 e is (middle_of e) between (is_ray_left e) ray.d ray.is has.left has.beside in
    subst (λ left. IsInsideHand ring (hand_by left)) same
    (inside_hand ring has.left (all_from_first ring closed simple has.left
    (λ f is_f. subst (λ g. IsBesideAll ring g has.left) (some_same (sym is ∙ is_f))
    (beside_all ring closed simple 0 e is (middle_of e) between has.left has.beside))))

-- a ring without edges has any hand
pub side_of_none : (ring : List Pt) → slice_get (edges_of ring) 0 ≡ None → IsInsideHand ring hand.Left
side_of_none ring none = inside_hand ring true (λ i e is. no_edge (edges_of ring) none i e is)
  where
    no_edge : (edges : List Seg) → slice_get edges 0 ≡ None → (i : ℕ) (e : Seg) → IsAtPlace edges i e → IsBesideAll ring e true
    no_edge [] h i e is = cc
    no_edge (f ∷ edges) h i e is = cc

-- ---- the hand that the code gives
same_side : (r o : Bool) → beq r o ≡ true → by_hand r o ≡ true
same_side true true h = refl
same_side true false h = h
same_side false true h = h
same_side false false h = refl

other_side : (r o : Bool) → beq r o ≡ false → by_hand r o ≡ false
other_side true true h = h
other_side true false h = refl
other_side false true h = refl
other_side false false h = h

side_of_tests :
    (ring : List Pt) → IsClosed ring → ¬ CrossesItself ring → (e : Seg) → IsAtPlace (edges_of ring) 0 e → (r o b : Bool) → r ≡ is_ray_left e
    → o ≡ is_odd (middle_of e) (edges_of ring) → by_hand r o ≡ b → IsInsideHand ring (hand_by b)
side_of_tests ring closed uncrossed e is r o b h k same =
    subst (λ left. IsInsideHand ring (hand_by left)) ((λ i. by_hand (sym h i) (sym k i)) ∙ same) (side_by_count ring closed uncrossed e is)

pub left_by_tests :
    (ring : List Pt) → IsClosed ring → ¬ CrossesItself ring → (e : Seg) → IsAtPlace (edges_of ring) 0 e → (r o : Bool) → r ≡ is_ray_left e
    → o ≡ is_odd (middle_of e) (edges_of ring) → beq r o ≡ true → IsInsideHand ring hand.Left
left_by_tests ring closed uncrossed e is r o h k same = side_of_tests ring closed uncrossed e is r o true h k (same_side r o same)

pub right_by_tests :
    (ring : List Pt) → IsClosed ring → ¬ CrossesItself ring → (e : Seg) → IsAtPlace (edges_of ring) 0 e → (r o : Bool) → r ≡ is_ray_left e
    → o ≡ is_odd (middle_of e) (edges_of ring) → beq r o ≡ false → IsInsideHand ring hand.Right
right_by_tests ring closed uncrossed e is r o h k other = side_of_tests ring closed uncrossed e is r o false h k (other_side r o other)
