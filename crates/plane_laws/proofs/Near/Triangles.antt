-- Triangles strictly round a point: each holds all near points, and some of them are near.
use Rattle.std.proofs.Common.{◌≡◌, ℕ, suc, ◌+◌, ℤ, pos, negsuc, ◌+ℤ◌, ◌-ℤ◌, ◌*ℤ◌, neg_ℤ, ◌<ℤ◌, ◌≤ℤ◌, List, [], ◌∷◌, refl, ◌∙◌, arith}
use Rattle.whole_algebra.proofs.Laws.{linear, neg-*ℤ}
use Rattle.whole_algebra.proofs.Polynomials.{Poly, var, num, ◌⊕◌, ◌⊖◌, ◌⊗◌, minus, identity}
use Rattle.whole_algebra.proofs.Certificates.{natural, positive, at_most, same, same_from, at_most_by, less_by, scaled, ◌⊞◌, ◌⊠◌}
use Rattle.whole_algebra.proofs.Signs.{by_sign, <ℤ_weaken, pos_nonzero, pos-*-pos}
use Rattle.plane_laws.proofs.Turns.Turns.{PolyPoint, point_at, turn_poly, ◌then◌, turn_cycle, turn_swap}
use Rattle.plane_laws.specs.Plane.{Point, IsMixOfThree, IsInTriangle, IsStrictlyInTriangle, turn, rise, shift}
use Rattle.plane_laws.specs.Directions.{Direction}
use Rattle.plane_laws.proofs.Segments.Mixes.{three_cycle}
use Rattle.plane_laws.proofs.Near.Parted.{Affine, at_point, turn_by, turn_by_is, turn_ends}
use Rattle.plane_laws.proofs.Near.Near.{IsNear, reach_of, positive_near}
use Rattle.plane_laws.proofs.Near.Away.{away_point, away_point_is, away_near, far_for}

-- ---- mixes of three
three_of : (k s t u f_x f_y f_w a_x a_y a_w b_x b_y b_w c_x c_y c_w p_x p_y p_w : ℤ) → k *ℤ p_x ≡ ((s *ℤ a_x) +ℤ (t *ℤ b_x)) +ℤ (u *ℤ c_x)
    → k *ℤ p_y ≡ ((s *ℤ a_y) +ℤ (t *ℤ b_y)) +ℤ (u *ℤ c_y) → k *ℤ p_w ≡ ((s *ℤ a_w) +ℤ (t *ℤ b_w)) +ℤ (u *ℤ c_w)
    → k *ℤ (((f_x *ℤ p_x) +ℤ (f_y *ℤ p_y)) +ℤ (f_w *ℤ p_w)) ≡
    ((s *ℤ (((f_x *ℤ a_x) +ℤ (f_y *ℤ a_y)) +ℤ (f_w *ℤ a_w))) +ℤ (t *ℤ (((f_x *ℤ b_x) +ℤ (f_y *ℤ b_y)) +ℤ (f_w *ℤ b_w)))) +ℤ
    (u *ℤ (((f_x *ℤ c_x) +ℤ (f_y *ℤ c_y)) +ℤ (f_w *ℤ c_w)))
three_of k s t u f_x f_y f_w a_x a_y a_w b_x b_y b_w c_x c_y c_w p_x p_y p_w e f g =
    same_from (var 0 ⊗ ((var 4 ⊗ var 16 ⊕ var 5 ⊗ var 17) ⊕ var 6 ⊗ var 18))
    ((var 1 ⊗ ((var 4 ⊗ var 7 ⊕ var 5 ⊗ var 8) ⊕ var 6 ⊗ var 9) ⊕ var 2 ⊗ ((var 4 ⊗ var 10 ⊕ var 5 ⊗ var 11) ⊕ var 6 ⊗ var 12)) ⊕ var 3 ⊗
    ((var 4 ⊗ var 13 ⊕ var 5 ⊗ var 14) ⊕ var 6 ⊗ var 15))
    (k ∷ s ∷ t ∷ u ∷ f_x ∷ f_y ∷ f_w ∷ a_x ∷ a_y ∷ a_w ∷ b_x ∷ b_y ∷ b_w ∷ c_x ∷ c_y ∷ c_w ∷ p_x ∷ p_y ∷ p_w ∷ [])
    (scaled (var 4) (same (var 0 ⊗ var 16) ((var 1 ⊗ var 7 ⊕ var 2 ⊗ var 10) ⊕ var 3 ⊗ var 13) e)
    ⊞ scaled (var 5) (same (var 0 ⊗ var 17) ((var 1 ⊗ var 8 ⊕ var 2 ⊗ var 11) ⊕ var 3 ⊗ var 14) f)
    ⊞ scaled (var 6) (same (var 0 ⊗ var 18) ((var 1 ⊗ var 9 ⊕ var 2 ⊗ var 12) ⊕ var 3 ⊗ var 15) g)) refl

affine_three : (f : Affine) {a b c p : Point} {s t u : ℤ} (m : IsMixOfThree a b c p s t u)
    → m.times *ℤ at_point f p ≡ ((s *ℤ at_point f a) +ℤ (t *ℤ at_point f b)) +ℤ (u *ℤ at_point f c)
affine_three f {a} {b} {c} {p} {s} {t} {u} m = three_of m.times s t u f.x f.y f.w a.x a.y a.w b.x b.y b.w c.x c.y c.w p.x p.y p.w m.across
    m.above m.mass

-- ---- a triangle that turns left, and a point strictly in it
part_positive : (k s t u a b c z : ℤ) → pos 0 <ℤ k → pos 0 <ℤ u → a ≡ pos 0 → b ≡ pos 0 → pos 0 <ℤ c
    → k *ℤ z ≡ ((s *ℤ a) +ℤ (t *ℤ b)) +ℤ (u *ℤ c) → pos 0 <ℤ z
part_positive k s t u a b c z hk hu ha hb hc e =
    less_by (num (pos 0)) (var 7) (k ∷ s ∷ t ∷ u ∷ a ∷ b ∷ c ∷ z ∷ [])
    (λ denied. denied ⊠ positive (var 0) hk ⊞ positive (var 3) hu ⊠ positive (var 6) hc
    ⊞ same (var 0 ⊗ var 7) ((var 1 ⊗ var 4 ⊕ var 2 ⊗ var 5) ⊕ var 3 ⊗ var 6) e
    ⊞ scaled (var 1) (same (var 4) (num (pos 0)) ha) ⊞ scaled (var 2) (same (var 5) (num (pos 0)) hb)) refl

third_positive : (a b c v : Point) {s t u : ℤ} (m : IsMixOfThree a b c v s t u) → pos 0 <ℤ u → pos 0 <ℤ turn a b c
    → pos 0 <ℤ at_point (turn_by a b) v
third_positive a b c v {s} {t} {u} m hu h =
    part_positive m.times s t u (at_point (turn_by a b) a) (at_point (turn_by a b) b) (at_point (turn_by a b) c)
    (at_point (turn_by a b) v) m.some hu
    (turn_by_is a b a ∙ (turn_ends a b).0) (turn_by_is a b b ∙ (turn_ends a b).1) (omega (arith, linear, h, turn_by_is a b c))
    (affine_three (turn_by a b) m)

weights : (a b c q : Point) → pos 0 <ℤ turn a b c → pos 0 ≤ℤ turn b c q → pos 0 ≤ℤ turn c a q → pos 0 ≤ℤ turn a b q → IsInTriangle a b c q
unfolding turn
weights a b c q h hs ht hu =
    let pa = point_at 0 in
    let pb = point_at 3 in
    let pc = point_at 6 in
    let pq = point_at 9 in
    let numbers = a then b then c then q then [] in
    record {
      s = turn b c q;
      t = turn c a q;
      u = turn a b q;
      mix = record {
        first = hs;
        second = ht;
        third = hu;
        times = turn a b c;
        some = h;
        across = identity (turn_poly pa pb pc ⊗ pq.x) ((turn_poly pb pc pq ⊗ pa.x ⊕ turn_poly pc pa pq ⊗ pb.x) ⊕ turn_poly pa pb pq ⊗
            pc.x) numbers refl;
        above = identity (turn_poly pa pb pc ⊗ pq.y) ((turn_poly pb pc pq ⊗ pa.y ⊕ turn_poly pc pa pq ⊗ pb.y) ⊕ turn_poly pa pb pq ⊗ pc.y)
            numbers refl;
        mass = identity (turn_poly pa pb pc ⊗ pq.w) ((turn_poly pb pc pq ⊗ pa.w ⊕ turn_poly pc pa pq ⊗ pb.w) ⊕ turn_poly pa pb pq ⊗ pc.w)
            numbers refl;
      };
    }

pub record HoldsNear (a b c v : Point) : Type 0 where
  pub n : ℕ
  pub held : (q : Point) → IsNear v n q → IsInTriangle a b c q

-- the first two points of a mix change places
three_swapped : {a b c p : Point} {s t u : ℤ} → IsMixOfThree a b c p s t u → IsMixOfThree b a c p t s u
three_swapped m = record {
  first = m.second;
  second = m.first;
  third = m.third;
  times = m.times;
  some = m.some;
  across = let e = m.across in omega (arith, linear, e);
  above = let e = m.above in omega (arith, linear, e);
  mass = let e = m.mass in omega (arith, linear, e);
}

left_holds_near : (a b c v : Point) {s t u : ℤ} → IsMixOfThree a b c v s t u → pos 0 <ℤ s → pos 0 <ℤ t → pos 0 <ℤ u → pos 0 <ℤ turn a b c
    → HoldsNear a b c v
left_holds_near a b c v m hs ht hu h = record {
  n = n;
  held = λ q near.
      weights a b c q h
      (at_least b c q (positive_near (turn_by b c) v q n (third_positive b c a v (three_cycle m) hs
      (omega (arith, linear, h, turn_cycle a b c))) (omega arith) near))
      (at_least c a q (positive_near (turn_by c a) v q n (third_positive c a b v (three_cycle (three_cycle m)) ht
      (omega (arith, linear, h, turn_cycle a b c, turn_cycle b c a))) (omega arith) near))
      (at_least a b q (positive_near (turn_by a b) v q n (third_positive a b c v m hu h) (omega arith) near));
}
  where
    n : ℕ
    n = (reach_of (turn_by a b) v + reach_of (turn_by b c) v) + reach_of (turn_by c a) v

    at_least : (x y q : Point) → pos 0 <ℤ at_point (turn_by x y) q → pos 0 ≤ℤ turn x y q
    at_least x y q k = <ℤ_weaken (omega (arith, linear, k, turn_by_is x y q))

pub holds_near : (a b c v : Point) → IsStrictlyInTriangle a b c v → HoldsNear a b c v
holds_near a b c v h = by_sign (turn a b c)
    (λ k. swapped (left_holds_near b a c v (three_swapped h.mix) h.some_second h.some_first h.some_third
    (omega (arith, linear, k, turn_swap a b c))))
    (λ e. absurd (h.broad e))
    (λ k. left_holds_near a b c v h.mix h.some_first h.some_second h.some_third k)
  where
    swapped : HoldsNear b a c v → HoldsNear a b c v
    swapped r = record {
      n = r.n;
      held = λ q near. let i = r.held q near in record
          { s = i.t; t = i.s; u = i.u; mix = three_swapped i.mix };
    }

-- ---- a near triangle
three_side : (v_w s t u k a_w b_w c_w q_w x y z r n : ℤ) → pos 0 <ℤ k → pos 0 ≤ℤ s → pos 0 ≤ℤ t → pos 0 ≤ℤ u
    → k *ℤ q_w ≡ ((s *ℤ a_w) +ℤ (t *ℤ b_w)) +ℤ (u *ℤ c_w) → k *ℤ r ≡ ((s *ℤ x) +ℤ (t *ℤ y)) +ℤ (u *ℤ z) → (n *ℤ x) ≤ℤ (v_w *ℤ a_w)
    → (n *ℤ y) ≤ℤ (v_w *ℤ b_w) → (n *ℤ z) ≤ℤ (v_w *ℤ c_w) → (n *ℤ r) ≤ℤ (v_w *ℤ q_w)
three_side v_w s t u k a_w b_w c_w q_w x y z r n hk hs ht hu e f h l m =
    at_most_by (var 13 ⊗ var 12) (var 0 ⊗ var 8) (v_w ∷ s ∷ t ∷ u ∷ k ∷ a_w ∷ b_w ∷ c_w ∷ q_w ∷ x ∷ y ∷ z ∷ r ∷ n ∷ [])
    (λ denied. denied ⊠ positive (var 4) hk
    ⊞ natural (var 1) hs ⊠ at_most (var 13 ⊗ var 9) (var 0 ⊗ var 5) h
    ⊞ natural (var 2) ht ⊠ at_most (var 13 ⊗ var 10) (var 0 ⊗ var 6) l
    ⊞ natural (var 3) hu ⊠ at_most (var 13 ⊗ var 11) (var 0 ⊗ var 7) m
    ⊞ scaled (var 0) (same (var 4 ⊗ var 8) ((var 1 ⊗ var 5 ⊕ var 2 ⊗ var 6) ⊕ var 3 ⊗ var 7) e)
    ⊞ scaled (minus (var 13)) (same (var 4 ⊗ var 12) ((var 1 ⊗ var 9 ⊕ var 2 ⊗ var 10) ⊕ var 3 ⊗ var 11) f)) refl

three_side' : (v_w s t u k a_w b_w c_w q_w x y z r n : ℤ) → pos 0 <ℤ k → pos 0 ≤ℤ s → pos 0 ≤ℤ t → pos 0 ≤ℤ u
    → k *ℤ q_w ≡ ((s *ℤ a_w) +ℤ (t *ℤ b_w)) +ℤ (u *ℤ c_w) → k *ℤ r ≡ ((s *ℤ x) +ℤ (t *ℤ y)) +ℤ (u *ℤ z) → neg_ℤ (v_w *ℤ a_w) ≤ℤ (n *ℤ x)
    → neg_ℤ (v_w *ℤ b_w) ≤ℤ (n *ℤ y) → neg_ℤ (v_w *ℤ c_w) ≤ℤ (n *ℤ z) → neg_ℤ (v_w *ℤ q_w) ≤ℤ (n *ℤ r)
three_side' v_w s t u k a_w b_w c_w q_w x y z r n hk hs ht hu e f h l m =
    omega (
      arith,
      linear,
      neg-*ℤ n r,
      three_side v_w s t u k a_w b_w c_w q_w x y z r (neg_ℤ n) hk hs ht hu e f
          (low (v_w *ℤ a_w) x h) (low (v_w *ℤ b_w) y l) (low (v_w *ℤ c_w) z m),
    )
  where
    low : (bound step : ℤ) → neg_ℤ bound ≤ℤ (n *ℤ step) → (neg_ℤ n *ℤ step) ≤ℤ bound
    low bound step h = omega (arith, linear, h, neg-*ℤ n step)

-- one coordinate of a mix of three, as a step from v
step_three : (k s t u q x v w a a_w b b_w c c_w : ℤ) → k *ℤ q ≡ ((s *ℤ a) +ℤ (t *ℤ b)) +ℤ (u *ℤ c)
    → k *ℤ x ≡ ((s *ℤ a_w) +ℤ (t *ℤ b_w)) +ℤ (u *ℤ c_w) → k *ℤ ((q *ℤ w) -ℤ (v *ℤ x))
    ≡ ((s *ℤ ((a *ℤ w) -ℤ (v *ℤ a_w))) +ℤ (t *ℤ ((b *ℤ w) -ℤ (v *ℤ b_w)))) +ℤ (u *ℤ ((c *ℤ w) -ℤ (v *ℤ c_w)))
step_three k s t u q x v w a a_w b b_w c c_w e f =
    same_from (var 0 ⊗ (var 4 ⊗ var 7 ⊖ var 6 ⊗ var 5))
    ((var 1 ⊗ (var 8 ⊗ var 7 ⊖ var 6 ⊗ var 9) ⊕ var 2 ⊗ (var 10 ⊗ var 7 ⊖ var 6 ⊗ var 11)) ⊕ var 3 ⊗
    (var 12 ⊗ var 7 ⊖ var 6 ⊗ var 13))
    (k ∷ s ∷ t ∷ u ∷ q ∷ x ∷ v ∷ w ∷ a ∷ a_w ∷ b ∷ b_w ∷ c ∷ c_w ∷ [])
    (scaled (var 7) (same (var 0 ⊗ var 4) ((var 1 ⊗ var 8 ⊕ var 2 ⊗ var 10) ⊕ var 3 ⊗ var 12) e)
    ⊞ scaled (minus (var 6)) (same (var 0 ⊗ var 5) ((var 1 ⊗ var 9 ⊕ var 2 ⊗ var 11) ⊕ var 3 ⊗ var 13) f)) refl

-- the steps across and up are affine functions
shift_three : (v : Point) {a b c q : Point} {s t u : ℤ} (m : IsMixOfThree a b c q s t u)
    → m.times *ℤ shift v q ≡ ((s *ℤ shift v a) +ℤ (t *ℤ shift v b)) +ℤ (u *ℤ shift v c)
unfolding shift
shift_three v {a} {b} {c} {q} {s} {t} {u} m =
    step_three m.times s t u q.x q.w v.x v.w a.x a.w b.x b.w c.x c.w m.across m.mass

rise_three : (v : Point) {a b c q : Point} {s t u : ℤ} (m : IsMixOfThree a b c q s t u)
    → m.times *ℤ rise v q ≡ ((s *ℤ rise v a) +ℤ (t *ℤ rise v b)) +ℤ (u *ℤ rise v c)
unfolding rise
rise_three v {a} {b} {c} {q} {s} {t} {u} m =
    step_three m.times s t u q.y q.w v.y v.w a.y a.w b.y b.w c.y c.w m.above m.mass

near_three : {v a b c q : Point} {n : ℕ} → IsNear v n a → IsNear v n b → IsNear v n c → IsInTriangle a b c q → IsNear v n q
near_three {v} {a} {b} {c} {q} {n} h k l within =
    let m = within.mix in
    let e = shift_three v m in
    let f = rise_three v m in
    record {
      left = three_side' v.w within.s within.t within.u m.times a.w b.w c.w q.w (shift v a) (shift v b) (shift v c) (shift v q) (pos n)
          m.some m.first m.second m.third m.mass e h.left k.left l.left;
      right = three_side v.w within.s within.t within.u m.times a.w b.w c.w q.w (shift v a) (shift v b) (shift v c) (shift v q) (pos n)
          m.some m.first m.second m.third m.mass e h.right k.right l.right;
      bottom = three_side' v.w within.s within.t within.u m.times a.w b.w c.w q.w (rise v a) (rise v b) (rise v c) (rise v q) (pos n)
          m.some m.first m.second m.third m.mass f h.bottom k.bottom l.bottom;
      top = three_side v.w within.s within.t within.u m.times a.w b.w c.w q.w (rise v a) (rise v b) (rise v c) (rise v q) (pos n) m.some
          m.first m.second m.third m.mass f h.top k.top l.top;
    }

down : Direction
down = record { x = negsuc 0; y = negsuc 0; moves = λ z. let e = z.0 in omega (arith, linear, e) }

right : Direction
right = record { x = pos 1; y = pos 0; moves = λ z. let e = z.0 in omega (arith, linear, e) }

up : Direction
up = record { x = pos 0; y = pos 1; moves = λ z. let e = z.1 in omega (arith, linear, e) }

pub record HasNearTriangle (v : Point) (n : ℕ) : Type 0 where
  pub a : Point
  pub b : Point
  pub c : Point
  pub strictly : IsStrictlyInTriangle a b c v
  pub near : (q : Point) → IsInTriangle a b c q → IsNear v n q

pub near_triangle : (v : Point) (n : ℕ) → HasNearTriangle v n
unfolding turn away_point down right up
near_triangle v n = record {
  a = away_point v down k;
  b = away_point v right k;
  c = away_point v up k;
  strictly = record {
    s = pos 1;
    t = pos 1;
    u = pos 1;
    mix = record {
      first = omega (arith, linear);
      second = omega (arith, linear);
      third = omega (arith, linear);
      times = pos 3 *ℤ m;
      some = omega (arith, linear);
      across = identity ((num (pos 3) ⊗ var 3) ⊗ var 0) ((num (pos 1) ⊗ pa.x ⊕ num (pos 1) ⊗ pb.x) ⊕ num (pos 1) ⊗ pc.x) numbers refl;
      above = identity ((num (pos 3) ⊗ var 3) ⊗ var 1) ((num (pos 1) ⊗ pa.y ⊕ num (pos 1) ⊗ pb.y) ⊕ num (pos 1) ⊗ pc.y) numbers refl;
      mass = identity ((num (pos 3) ⊗ var 3) ⊗ var 2) ((num (pos 1) ⊗ pa.w ⊕ num (pos 1) ⊗ pb.w) ⊕ num (pos 1) ⊗ pc.w) numbers refl;
    };
    some_first = omega (arith, linear);
    some_second = omega (arith, linear);
    some_third = omega (arith, linear);
    broad = λ e. pos_nonzero size (identity ((num (pos 3) ⊗ var 3) ⊗ ((var 2 ⊗ var 2) ⊗ var 2)) (turn_poly pa pb pc) numbers refl ∙ e);
  };
  near = λ q within.
      near_three (away_near n (omega arith) (away_point_is v down k)) (away_near n (omega arith) (away_point_is v right k))
      (away_near n (omega arith) (away_point_is v up k)) within;
}
  where
    k : ℕ
    k = (far_for down n + far_for right n) + far_for up n

    m : ℤ
    m = pos (suc k)

    numbers : List ℤ
    numbers = v.x ∷ v.y ∷ v.w ∷ m ∷ []

    corner : Poly → Poly → PolyPoint
    corner x y = record { x = var 0 ⊗ var 3 ⊕ x ⊗ var 2; y = var 1 ⊗ var 3 ⊕ y ⊗ var 2; w = var 2 ⊗ var 3 }

    pa : PolyPoint
    pa = corner (num (negsuc 0)) (num (negsuc 0))

    pb : PolyPoint
    pb = corner (num (pos 1)) (num (pos 0))

    pc : PolyPoint
    pc = corner (num (pos 0)) (num (pos 1))

    size : pos 0 <ℤ ((pos 3 *ℤ m) *ℤ ((v.w *ℤ v.w) *ℤ v.w))
    size = let some : pos 0 <ℤ (pos 3 *ℤ m) = omega (arith, linear) in pos-*-pos some (pos-*-pos (pos-*-pos v.heavy v.heavy) v.heavy)
