-- The sectors between neighbouring rays: no ray lies strictly within one, so the germ of an area is the same along all its directions.
use Rattle.std.proofs.Common.{◌≡◌, ◌⊎◌, inl, inr, ℕ, ◌+◌, ◌%◌, ◌<◌, ℤ, pos, ◌-ℤ◌, ◌*ℤ◌, neg_ℤ, ◌<ℤ◌, ◌≤◌, Less, List, [], ◌∷◌, length}
use Rattle.std.proofs.Common.{get_or, ap, refl, sym, ◌∙◌, subst, arith}
use Rattle.std.specs.List.{AllPairs, Any}
use Rattle.std.proofs.Math.Nat.{mod_self, mod-eq_of_lt}
use Rattle.std.proofs.lemmas.Bool.{cases_lt, cases_order, cases_eq}
use Rattle.std.proofs.lemmas.Option.{slice_get_within, slice_get_read, get_or_from_slice_get}
use Rattle.whole_algebra.proofs.Laws.{linear}
use Rattle.whole_algebra.proofs.Polynomials.{var, num, ◌⊖◌, ◌⊗◌, minus}
use Rattle.whole_algebra.proofs.Certificates.{positive, same, less_by, impossible_by, scaled, ◌⊞◌, ◌⊠◌}
use Rattle.whole_algebra.proofs.Signs.{by_sign, <ℤ_apart}
use Rattle.plane_laws.proofs.Directions.Angles.{joined_ways}
use Rattle.germ_laws.proofs.Rays.InTurn.{AreInTurn, around_a, around_b, around_c, turn_on, IsAhead, ahead_from, in_turn}
use Rattle.plane_laws.specs.Directions.{Direction, bend_of, PointSameWay, IsStrictlyWithin}
use Rattle.plane_exact.specs.Orders.{direction_of, compare_angles}
use Rattle.plane_laws.specs.Plane.{Point}
use Rattle.plane_exact.specs.declared.dir.Dir.{Dir}
use Rattle.im_matrix.specs.declared.Loc.{Loc}
use Rattle.point_set.specs.declared.figure.Area.{Area}
use Rattle.point_set.specs.Germ.{IsGerm}
use Rattle.point_set.specs.Location.{rings_of, edges_of_rings}
use Rattle.point_set.specs.Sectors.{HasNoEdgeWithin, AreRaysAt, IsInSector}
use Rattle.point_set.specs.Shape.{IsAreaShaped}
use Rattle.point_set.specs.Validity.{IsAtPlace}
use Rattle.ring_laws.proofs.Germs.Areas.{clear_from}
use Rattle.ring_laws.proofs.Germs.Edges.{AreClear}
use Rattle.germ_laws.proofs.Sectors.Germ.{over_back, ArePointed, toward, toward_is, same_in_sector, same_where_clear}

-- ---- directions that point the same way
pub opposed : (u w : Direction) → pos 0 <ℤ bend_of u w → pos 0 <ℤ bend_of w u → ⊥
unfolding bend_of
opposed u w h k = impossible_by (u.x ∷ u.y ∷ w.x ∷ w.y ∷ [])
    (positive (var 0 ⊗ var 3 ⊖ var 1 ⊗ var 2) h ⊞ positive (var 2 ⊗ var 1 ⊖ var 3 ⊗ var 0) k) refl

pub turned_way : {u w : Direction} → PointSameWay u w → PointSameWay w u
turned_way h = record { m = h.n; n = h.m; some = h.other; other = h.some; across = sym h.across; above = sym h.above }

way_of_numbers : (x y : ℤ) {u w : Direction} → PointSameWay u w → pos 0 <ℤ ((x *ℤ w.y) -ℤ (y *ℤ w.x))
    → pos 0 <ℤ ((x *ℤ u.y) -ℤ (y *ℤ u.x))
way_of_numbers x y {u} {w} q h =
    less_by (num (pos 0)) (var 4 ⊗ var 1 ⊖ var 5 ⊗ var 0) (u.x ∷ u.y ∷ w.x ∷ w.y ∷ x ∷ y ∷ q.m ∷ q.n ∷ [])
    (λ denied. denied ⊠ positive (var 6) q.some ⊞ positive (var 7) q.other ⊠ positive (var 4 ⊗ var 3 ⊖ var 5 ⊗ var 2) h
    ⊞ scaled (minus (var 5)) (same (var 6 ⊗ var 0) (var 7 ⊗ var 2) q.across)
    ⊞ scaled (var 4) (same (var 6 ⊗ var 1) (var 7 ⊗ var 3) q.above)) refl

-- what has one of two directions that are one to the left has the other to the left
pub way_to_left : {u w : Direction} (s : Direction) → PointSameWay u w → pos 0 <ℤ bend_of s w → pos 0 <ℤ bend_of s u
unfolding bend_of
way_to_left s q h = way_of_numbers s.x s.y q h

-- and what is to the left of the one is to the left of the other
left_of_way : {u w : Direction} (s : Direction) → PointSameWay u w → pos 0 <ℤ bend_of w s → pos 0 <ℤ bend_of u s
unfolding bend_of
left_of_way {u} {w} s q h =
    subst (λ z. pos 0 <ℤ z) (sym (over_back u.x u.y s.x s.y))
    (way_of_numbers (neg_ℤ s.x) (neg_ℤ s.y) q (subst (λ z. pos 0 <ℤ z) (over_back w.x w.y s.x s.y) h))

-- ---- what isn't strictly between two directions
in_turn_way : {r s t u : Direction} → PointSameWay t u → AreInTurn r s u → AreInTurn r s t
in_turn_way {r} {s} {t} {u} q (around_a h k) = around_a (left_of_way r q h) k
in_turn_way {r} {s} {t} {u} q (around_b h k) = around_b h (way_to_left s q k)
in_turn_way {r} {s} {t} {u} q (around_c h k) = around_c (way_to_left s q h) (left_of_way r q k)

in_turn_outside : (r s t : Direction) → AreInTurn r s t → ¬ IsStrictlyWithin r s t
in_turn_outside r s t (around_a h k) w = opposed t r h (w.left k).0
in_turn_outside r s t (around_b h k) w = opposed s t k (w.left h).1
in_turn_outside r s t (around_c h k) w = by_sign (bend_of r s) (λ n. right (w.right n))
    (λ z. opposed t r k (w.opposite z (λ q. opposed t r k (left_of_way t q h)))) (λ p. opposed s t h (w.left p).1)
  where
    right : (pos 0 <ℤ bend_of r t) ⊎ (pos 0 <ℤ bend_of t s) → ⊥
    right (inl a) = opposed t r k a
    right (inr a) = opposed s t h a

first_outside : (r s t : Direction) → PointSameWay t r → ¬ IsStrictlyWithin r s t
first_outside r s t q w = by_sign (bend_of r s) (λ n. right n (w.right n))
    (λ z. not_left (w.opposite z (λ whole. w.same whole (turned_way q)))) (λ p. not_left (w.left p).0)
  where
    not_left : pos 0 <ℤ bend_of r t → ⊥
    not_left a = opposed t t (left_of_way t q a) (left_of_way t q a)

    right : bend_of r s <ℤ pos 0 → (pos 0 <ℤ bend_of r t) ⊎ (pos 0 <ℤ bend_of t s) → ⊥
    right n (inl a) = not_left a
    right n (inr a) = let k = left_of_way s (turned_way q) a in omega (arith, linear, n, k)

second_outside : (r s t : Direction) → PointSameWay t s → ¬ IsStrictlyWithin r s t
second_outside r s t q w =
    by_sign (bend_of r s) (λ n. right n (w.right n))
    (λ z. <ℤ_apart (way_to_left r (turned_way q) (w.opposite z (λ whole. w.same whole (joined_ways whole (turned_way q))))) (sym z))
    (λ p. not_left (w.left p).1)
  where
    not_left : pos 0 <ℤ bend_of t s → ⊥
    not_left a = opposed t t (way_to_left t q a) (way_to_left t q a)

    right : bend_of r s <ℤ pos 0 → (pos 0 <ℤ bend_of r t) ⊎ (pos 0 <ℤ bend_of t s) → ⊥
    right n (inl a) = let k = way_to_left r (turned_way q) a in omega (arith, linear, n, k)
    right n (inr a) = not_left a

-- ---- in a list of rays
pub one_at : {X : Type 0} (items : List X) (i j : ℕ) (x y : X) → i ≡ j → IsAtPlace items i x → IsAtPlace items j y → x ≡ y
one_at items i j x y e x_is y_is = sym (get_or_from_slice_get items i x x x_is) ∙ ap (λ (k : ℕ). get_or items k x) e
    ∙ get_or_from_slice_get items j y x y_is

module _ (rays : List Dir) (ascending : AllPairs (λ d e. compare_angles d e ≡ Less) rays) where
  in_order : (i j : ℕ) (d e : Dir) → i < j → IsAtPlace rays i d → IsAtPlace rays j e
      → IsAhead (direction_of d) (direction_of e)
  in_order i j d e h d_is e_is =
      let first = sym (get_or_from_slice_get rays i d d d_is) in
      let second = sym (get_or_from_slice_get rays j e d e_is) in
      ahead_from d e ((λ z. compare_angles (first z) (second z)) ∙ ascending i j d h (slice_get_within rays j e e_is))

  -- t points the way of the ray u at place k: it isn't strictly within the sector of the ray r at place i and the next one, s
  module _ (i k : ℕ) (r s u : Dir) (r_is : IsAtPlace rays i r) (u_is : IsAtPlace rays k u) (t : Direction)
      (q : PointSameWay t (direction_of u)) where
    abbrev IsOutside : Type 0
    IsOutside = ¬ IsStrictlyWithin (direction_of r) (direction_of s) t

    at_first : k ≡ i → IsOutside
    at_first e = first_outside (direction_of r) (direction_of s) t
        (subst (λ (z : Dir). PointSameWay t (direction_of z)) (one_at rays k i u r e u_is r_is) q)

    at_second : (j : ℕ) → IsAtPlace rays j s → k ≡ j → IsOutside
    at_second j s_is e = second_outside (direction_of r) (direction_of s) t
        (subst (λ (z : Dir). PointSameWay t (direction_of z)) (one_at rays k j u s e u_is s_is) q)

    elsewhere : AreInTurn (direction_of r) (direction_of s) (direction_of u) → IsOutside
    elsewhere h = in_turn_outside (direction_of r) (direction_of s) t (in_turn_way q h)

    off_sector_before : IsAtPlace rays (i + 1) s → IsOutside
    off_sector_before s_is = before (cases_order k i)
      where
        after : i < k → (k ≡ i + 1) ⊎ ((k < (i + 1)) ⊎ ((i + 1) < k)) → IsOutside
        after h (inl e) = at_second (i + 1) s_is e
        after h (inr (inl l)) = absurd (omega (arith, h, l))
        after h (inr (inr l)) = elsewhere
            (in_turn (direction_of r) (direction_of s) (direction_of u) (in_order i (i + 1) r s (omega arith) r_is s_is)
            (in_order (i + 1) k s u l s_is u_is))

        before : (k ≡ i) ⊎ ((k < i) ⊎ (i < k)) → IsOutside
        before (inl e) = at_first e
        before (inr (inl l)) = elsewhere
            (turn_on (in_turn (direction_of u) (direction_of r) (direction_of s) (in_order k i u r l u_is r_is)
            (in_order i (i + 1) r s (omega arith) r_is s_is)))
        before (inr (inr l)) = after l (cases_order k (i + 1))

    off_last_sector : length rays ≤ (i + 1) → IsAtPlace rays 0 s → IsOutside
    off_last_sector last s_is = before (cases_order k i)
      where
        from_zero : k < i → (k ≡ 0) ⊎ (k ≡ 0 → ⊥) → IsOutside
        from_zero l (inl e) = at_second 0 s_is e
        from_zero l (inr n) = elsewhere
            (turn_on (turn_on
            (in_turn (direction_of s) (direction_of u) (direction_of r) (in_order 0 k s u (omega (arith, n)) s_is u_is)
            (in_order k i u r l u_is r_is))))

        before : (k ≡ i) ⊎ ((k < i) ⊎ (i < k)) → IsOutside
        before (inl e) = at_first e
        before (inr (inl l)) = from_zero l (cases_eq k 0)
        before (inr (inr l)) = absurd (let below = slice_get_within rays k u u_is in omega (arith, below, l, last))

    pub off_sector : IsAtPlace rays ((i + 1) % length rays) s → IsOutside
    off_sector s_is = go (cases_lt (i + 1) (length rays))
      where
        go : ((i + 1) < length rays) ⊎ (length rays ≤ (i + 1)) → IsOutside
        go (inl l) = off_sector_before (subst (λ (j : ℕ). IsAtPlace rays j s) (mod-eq_of_lt l) s_is)
        go (inr l) =
            let below = slice_get_within rays i r r_is in
            let e : i + 1 ≡ length rays = omega (arith, below, l) in
            off_last_sector l (subst (λ (j : ℕ). IsAtPlace rays j s) (ap (λ (n : ℕ). n % length rays) e ∙ mod_self (length rays)) s_is)

-- ---- the germ
pub none_within : (area : Area) (v : Point) (rays : List Dir) → AreRaysAt v (edges_of_rings (rings_of area)) rays → (i : ℕ) (r s : Dir)
    → IsAtPlace rays i r → IsAtPlace rays ((i + 1) % length rays) s → HasNoEdgeWithin area v (direction_of r) (direction_of s)
none_within area v rays are i r s r_is s_is place f is on t within =
    (λ c. on_ray (are.whole place f is on t (inl c)), λ c. on_ray (are.whole place f is on t (inr c)))
  where
    on_ray : Any (λ ray. PointSameWay t (direction_of ray)) rays → ⊥
    on_ray a = off_sector rays are.ascending i a.0 r s a.1 r_is (slice_get_read rays (length rays) a.0 a.1 refl a.2 (sym a.3)) t a.4 s_is
        within

pub same_between_rays : (area : Area) → IsAreaShaped area → (v : Point) (rays : List Dir)
    → AreRaysAt v (edges_of_rings (rings_of area)) rays → (i : ℕ) (d e : Direction) → IsInSector rays i d → IsInSector rays i e
    → (g h : Loc) → IsGerm area v d g → IsGerm area v e h → g ≡ h
same_between_rays area shaped v [] are i d e in_d in_e = same_where_clear area shaped v clear d e
  where
    no_ray : {t : Direction} → Any (λ ray. PointSameWay t (direction_of ray)) [] → ⊥
    no_ray a = let below = a.2 in omega (arith, below)

    clear : (d e : Direction) → ArePointed d e → AreClear v d e (edges_of_rings (rings_of area))
    clear d e n =
        clear_from v d e (edges_of_rings (rings_of area)) (λ place f is on. (
          λ c. no_ray (are.whole place f is on (toward n c) (inl (toward_is n c))),
          λ c. no_ray (are.whole place f is on (toward n c) (inr (toward_is n c))),
        ))
same_between_rays area shaped v (ray ∷ rays) are i d e in_d in_e =
    same_in_sector area shaped v (direction_of in_d.ray) (direction_of in_d.next)
    (none_within area v (ray ∷ rays) are i in_d.ray in_d.next in_d.ray_is in_d.next_is) d e in_d.holds here
  where
    place : ℕ
    place = (i + 1) % length (ray ∷ rays)

    one_ray : in_e.ray ≡ in_d.ray
    one_ray = one_at (ray ∷ rays) i i in_e.ray in_d.ray refl in_e.ray_is in_d.ray_is

    one_next : in_e.next ≡ in_d.next
    one_next = one_at (ray ∷ rays) place place in_e.next in_d.next refl in_e.next_is in_d.next_is

    here : IsStrictlyWithin (direction_of in_d.ray) (direction_of in_d.next) e
    here =
        subst (λ (z : Dir). IsStrictlyWithin (direction_of z) (direction_of in_d.next) e) one_ray
        (subst (λ (z : Dir). IsStrictlyWithin (direction_of in_e.ray) (direction_of z) e) one_next in_e.holds)
