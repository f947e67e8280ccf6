-- Two steps from a point, one along a ray and a much shorter one off it: the germ at the first stop is a germ at the point.
use Rattle.std.proofs.Common.{◌≡◌, ℕ, suc, ◌+◌, ◌<◌, ℤ, pos, ◌+ℤ◌, ◌-ℤ◌, ◌*ℤ◌, neg_ℤ, ◌<ℤ◌, ◌≤ℤ◌, [], ◌∷◌, refl, subst, arith}
use Rattle.im_matrix.specs.declared.Loc.{Loc}
use Rattle.whole_algebra.proofs.Laws.{linear}
use Rattle.whole_algebra.proofs.Polynomials.{var, num, ◌⊕◌, ◌⊖◌, ◌⊗◌, minus}
use Rattle.whole_algebra.proofs.Certificates.{positive, at_most, same, same_from, at_most_by, scaled, ◌⊞◌, ◌⊠◌}
use Rattle.whole_algebra.proofs.Signs.{<ℤ_weaken, pos-*-pos, zero_factor, pos_nonzero}
use Rattle.plane_laws.specs.Plane.{Point, rise, shift}
use Rattle.plane_laws.specs.Directions.{Direction, bend_of}
use Rattle.point_set.specs.declared.figure.Area.{Area}
use Rattle.plane_laws.specs.Along.{IsAway, IsInCone}
use Rattle.point_set.specs.Germ.{IsGerm}
use Rattle.plane_laws.proofs.Near.Near.{IsNear}
use Rattle.plane_laws.proofs.Near.Away.{away_point, away_point_is, away_near, far_for, away_shift, away_rise}
use Rattle.germ_laws.proofs.Room.Germs.{HasGermRoom}

-- ---- near what is near
near_sum : (m q qw v vw p pw : ℤ) → pos 0 <ℤ qw → pos 0 <ℤ pw → pos 0 <ℤ vw → ((m +ℤ m) *ℤ ((q *ℤ vw) -ℤ (v *ℤ qw))) ≤ℤ (vw *ℤ qw)
    → ((m +ℤ m) *ℤ ((p *ℤ qw) -ℤ (q *ℤ pw))) ≤ℤ (qw *ℤ pw) → (m *ℤ ((p *ℤ vw) -ℤ (v *ℤ pw))) ≤ℤ (vw *ℤ pw)
near_sum m q qw v vw p pw hq hp hv h k =
    at_most_by (var 0 ⊗ (var 5 ⊗ var 4 ⊖ var 3 ⊗ var 6)) (var 4 ⊗ var 6) (m ∷ q ∷ qw ∷ v ∷ vw ∷ p ∷ pw ∷ [])
    (λ denied. denied ⊠ positive (var 2) hq ⊞ denied ⊠ positive (var 2) hq
    ⊞ at_most ((var 0 ⊕ var 0) ⊗ (var 1 ⊗ var 4 ⊖ var 3 ⊗ var 2)) (var 4 ⊗ var 2) h ⊠ positive (var 6) hp
    ⊞ at_most ((var 0 ⊕ var 0) ⊗ (var 5 ⊗ var 2 ⊖ var 1 ⊗ var 6)) (var 2 ⊗ var 6) k ⊠ positive (var 4) hv) refl

near_sum' : (m q qw v vw p pw : ℤ) → pos 0 <ℤ qw → pos 0 <ℤ pw → pos 0 <ℤ vw → neg_ℤ (vw *ℤ qw) ≤ℤ ((m +ℤ m) *ℤ ((q *ℤ vw) -ℤ (v *ℤ qw)))
    → neg_ℤ (qw *ℤ pw) ≤ℤ ((m +ℤ m) *ℤ ((p *ℤ qw) -ℤ (q *ℤ pw))) → neg_ℤ (vw *ℤ pw) ≤ℤ (m *ℤ ((p *ℤ vw) -ℤ (v *ℤ pw)))
near_sum' m q qw v vw p pw hq hp hv h k =
    at_most_by (minus (var 4 ⊗ var 6)) (var 0 ⊗ (var 5 ⊗ var 4 ⊖ var 3 ⊗ var 6)) (m ∷ q ∷ qw ∷ v ∷ vw ∷ p ∷ pw ∷ [])
    (λ denied. denied ⊠ positive (var 2) hq ⊞ denied ⊠ positive (var 2) hq
    ⊞ at_most (minus (var 4 ⊗ var 2)) ((var 0 ⊕ var 0) ⊗ (var 1 ⊗ var 4 ⊖ var 3 ⊗ var 2)) h ⊠ positive (var 6) hp
    ⊞ at_most (minus (var 2 ⊗ var 6)) ((var 0 ⊕ var 0) ⊗ (var 5 ⊗ var 2 ⊖ var 1 ⊗ var 6)) k ⊠ positive (var 4) hv) refl

pub near_near : {v q p : Point} (n : ℕ) → IsNear v (n + n) q → IsNear q (n + n) p → IsNear v n p
unfolding shift rise
near_near {v} {q} {p} n h k = record {
  left = near_sum' (pos n) q.x q.w v.x v.w p.x p.w q.heavy p.heavy v.heavy h.left k.left;
  right = near_sum (pos n) q.x q.w v.x v.w p.x p.w q.heavy p.heavy v.heavy h.right k.right;
  bottom = near_sum' (pos n) q.y q.w v.y v.w p.y p.w q.heavy p.heavy v.heavy h.bottom k.bottom;
  top = near_sum (pos n) q.y q.w v.y v.w p.y p.w q.heavy p.heavy v.heavy h.top k.top;
}

-- ---- the direction of two steps
pub bent_sum : (r t : Direction) (n l : ℤ) → pos 0 <ℤ n → ¬ (bend_of r t ≡ pos 0)
    → ¬ (((l *ℤ r.x) +ℤ (n *ℤ t.x) ≡ pos 0) × ((l *ℤ r.y) +ℤ (n *ℤ t.y) ≡ pos 0))
unfolding bend_of
bent_sum r t n l h bent z =
    bent (zero_factor n ((r.x *ℤ t.y) -ℤ (r.y *ℤ t.x)) (pos_nonzero h)
    (same_from (var 4 ⊗ (var 0 ⊗ var 3 ⊖ var 1 ⊗ var 2)) (num (pos 0)) (r.x ∷ r.y ∷ t.x ∷ t.y ∷ n ∷ l ∷ [])
    (scaled (var 0) (same (var 5 ⊗ var 1 ⊕ var 4 ⊗ var 3) (num (pos 0)) z.1)
    ⊞ scaled (minus (var 1)) (same (var 5 ⊗ var 0 ⊕ var 4 ⊗ var 2) (num (pos 0)) z.0)) refl))

unfoldable pub both_ways : (r t : Direction) → ¬ (bend_of r t ≡ pos 0) → ℕ → ℕ → Direction
both_ways r t bent n l = record {
  x = (pos (suc l) *ℤ r.x) +ℤ (pos (suc n) *ℤ t.x);
  y = (pos (suc l) *ℤ r.y) +ℤ (pos (suc n) *ℤ t.y);
  moves = bent_sum r t (pos (suc n)) (pos (suc l)) (omega (arith, linear)) bent;
}

pub two_steps : (n l r t q qw v vw p pw : ℤ) → n *ℤ ((q *ℤ vw) -ℤ (v *ℤ qw)) ≡ r *ℤ (vw *ℤ qw)
    → l *ℤ ((p *ℤ qw) -ℤ (q *ℤ pw)) ≡ t *ℤ (qw *ℤ pw) → ((n *ℤ l) *ℤ qw) *ℤ ((p *ℤ vw) -ℤ (v *ℤ pw)) ≡
    (((vw *ℤ qw) *ℤ pw) *ℤ ((l *ℤ r) +ℤ (n *ℤ t))) +ℤ (pos 0 *ℤ ((l *ℤ r) +ℤ (n *ℤ t)))
two_steps n l r t q qw v vw p pw e f =
    same_from (((var 0 ⊗ var 1) ⊗ var 5) ⊗ (var 8 ⊗ var 7 ⊖ var 6 ⊗ var 9))
    (((var 7 ⊗ var 5) ⊗ var 9) ⊗ (var 1 ⊗ var 2 ⊕ var 0 ⊗ var 3) ⊕ num (pos 0) ⊗ (var 1 ⊗ var 2 ⊕ var 0 ⊗ var 3))
    (n ∷ l ∷ r ∷ t ∷ q ∷ qw ∷ v ∷ vw ∷ p ∷ pw ∷ [])
    (scaled (var 1 ⊗ var 9) (same (var 0 ⊗ (var 4 ⊗ var 7 ⊖ var 6 ⊗ var 5)) (var 2 ⊗ (var 7 ⊗ var 5)) e)
    ⊞ scaled (var 0 ⊗ var 7) (same (var 1 ⊗ (var 8 ⊗ var 5 ⊖ var 4 ⊗ var 9)) (var 3 ⊗ (var 5 ⊗ var 9)) f)) refl

pub two_steps_cone : {v q p : Point} (r t : Direction) (bent : ¬ (bend_of r t ≡ pos 0)) (n l : ℕ) → IsAway v r (suc n) q
    → IsAway q t (suc l) p → IsInCone v (both_ways r t bent n l) (both_ways r t bent n l) p
unfolding both_ways shift rise
two_steps_cone {v} {q} {p} r t bent n l away away' =
    let some_n : pos 0 <ℤ pos (suc n) = omega (arith, linear) in
    let some_l : pos 0 <ℤ pos (suc l) = omega (arith, linear) in
    let weight : pos 0 <ℤ ((v.w *ℤ q.w) *ℤ p.w) = pos-*-pos (pos-*-pos v.heavy q.heavy) p.heavy in
    record {
      i = (v.w *ℤ q.w) *ℤ p.w;
      j = pos 0;
      first = <ℤ_weaken weight;
      second = omega (arith, linear);
      some = omega (arith, linear, weight);
      times = (pos (suc n) *ℤ pos (suc l)) *ℤ q.w;
      positive = pos-*-pos (pos-*-pos some_n some_l) q.heavy;
      across = two_steps (pos (suc n)) (pos (suc l)) r.x t.x q.x q.w v.x v.w p.x p.w (away_shift away) (away_shift away');
      above = two_steps (pos (suc n)) (pos (suc l)) r.y t.y q.y q.w v.y v.w p.y p.w (away_rise away) (away_rise away');
    }

-- ---- the germ at the first stop
pub germ_from_step :
    (area : Area) (v : Point) (room : HasGermRoom area v) (r t : Direction) (bent : ¬ (bend_of r t ≡ pos 0)) (n : ℕ)
    → far_for r (room.n + room.n) < suc n → (g : Loc) (is : IsGerm area (away_point v r n) t g) (l : ℕ)
    → (is.from + far_for t (room.n + room.n)) < suc l → IsGerm area v (both_ways r t bent n l) g
germ_from_step area v room r t bent n far g is l beyond =
    let q = away_point v r n in
    let p = away_point q t l in
    let to_q = away_point_is v r n in
    let to_p = away_point_is q t l in
    let near = near_near room.n (away_near (room.n + room.n) far to_q) (away_near (room.n + room.n) (omega (arith, beyond)) to_p) in
    subst (λ h. IsGerm area v (both_ways r t bent n l) h) (is.holds (suc l) (omega (arith, beyond)) p to_p)
    (room.germ room.n (omega arith) p near (both_ways r t bent n l) (two_steps_cone r t bent n l to_q to_p))
