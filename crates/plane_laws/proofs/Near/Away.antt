-- Germs: the points v + d/n, which are near v, and the segments between them.
use Rattle.std.proofs.Common.{◌≡◌, ℕ, suc, ◌+◌, ◌*◌, ◌≤◌, ◌<◌, ℤ, pos, ◌+ℤ◌, ◌-ℤ◌, ◌*ℤ◌, neg_ℤ, ◌<ℤ◌, ◌≤ℤ◌, [], ◌∷◌, refl, sym, arith}
use Rattle.whole_algebra.proofs.Laws.{linear, *ℤ-neg}
use Rattle.whole_algebra.proofs.Polynomials.{var, num, ◌⊕◌, ◌⊖◌, ◌⊗◌, minus}
use Rattle.whole_algebra.proofs.Certificates.{natural, positive, at_most, same, same_from, at_most_by, less_by, whole, scaled, ◌⊞◌, ◌⊠◌}
use Rattle.whole_algebra.proofs.Signs.{<ℤ_weaken, scale_≤ℤ, pos-*-pos, nonneg-*-nonneg}
use Rattle.plane_laws.specs.Plane.{Point, IsMix, IsOnSegment, rise, shift}
use Rattle.plane_laws.specs.Directions.{Direction}
use Rattle.plane_laws.specs.Along.{IsAway, IsInCone}
use Rattle.plane_laws.proofs.Near.Near.{IsNear, shift_mix, rise_mix, IsSize, size_of, size_is}

-- ---- the points v + d/n
unfoldable pub away_point : (v : Point) → Direction → ℕ → Point
away_point v d n = record {
  x = (v.x *ℤ pos (suc n)) +ℤ (d.x *ℤ v.w);
  y = (v.y *ℤ pos (suc n)) +ℤ (d.y *ℤ v.w);
  w = v.w *ℤ pos (suc n);
  heavy = pos-*-pos v.heavy (omega (arith, linear));
}

pub away_point_is : (v : Point) (d : Direction) (n : ℕ) → IsAway v d (suc n) (away_point v d n)
unfolding away_point
away_point_is v d n = record { across = refl; above = refl }

-- n steps from v to v + d/n are d
step_of_away : (p v n d v_w p_w : ℤ) → p *ℤ (v_w *ℤ n) ≡ ((v *ℤ n) +ℤ (d *ℤ v_w)) *ℤ p_w
    → n *ℤ ((p *ℤ v_w) -ℤ (v *ℤ p_w)) ≡ d *ℤ (v_w *ℤ p_w)
step_of_away p v n d v_w p_w e =
    same_from (var 2 ⊗ (var 0 ⊗ var 4 ⊖ var 1 ⊗ var 5)) (var 3 ⊗ (var 4 ⊗ var 5)) (p ∷ v ∷ n ∷ d ∷ v_w ∷ p_w ∷ [])
    (same (var 0 ⊗ (var 4 ⊗ var 2)) ((var 1 ⊗ var 2 ⊕ var 3 ⊗ var 4) ⊗ var 5) e) refl

pub away_shift : {v : Point} {d : Direction} {n : ℕ} {p : Point} → IsAway v d n p → pos n *ℤ shift v p ≡ d.x *ℤ (v.w *ℤ p.w)
unfolding shift
away_shift {v} {d} {n} {p} away = step_of_away p.x v.x (pos n) d.x v.w p.w away.across

pub away_rise : {v : Point} {d : Direction} {n : ℕ} {p : Point} → IsAway v d n p → pos n *ℤ rise v p ≡ d.y *ℤ (v.w *ℤ p.w)
unfolding rise
away_rise {v} {d} {n} {p} away = step_of_away p.y v.y (pos n) d.y v.w p.w away.above

-- ---- they are near v
near_step : (n k d z w : ℤ) → pos 0 <ℤ n → pos 0 <ℤ w → n *ℤ z ≡ d *ℤ w → (k *ℤ d) ≤ℤ n → (k *ℤ z) ≤ℤ w
near_step n k d z w hn hw e h =
    at_most_by (var 1 ⊗ var 3) (var 4) (n ∷ k ∷ d ∷ z ∷ w ∷ [])
    (λ denied. denied ⊠ positive (var 0) hn ⊞ at_most (var 1 ⊗ var 2) (var 0) h ⊠ positive (var 4) hw
    ⊞ scaled (minus (var 1)) (same (var 0 ⊗ var 3) (var 2 ⊗ var 4) e)) refl

near_step' : (n k d z w : ℤ) → pos 0 <ℤ n → pos 0 <ℤ w → n *ℤ z ≡ d *ℤ w → neg_ℤ n ≤ℤ (k *ℤ d) → neg_ℤ w ≤ℤ (k *ℤ z)
near_step' n k d z w hn hw e h =
    at_most_by (minus (var 4)) (var 1 ⊗ var 3) (n ∷ k ∷ d ∷ z ∷ w ∷ [])
    (λ denied. denied ⊠ positive (var 0) hn ⊞ at_most (minus (var 0)) (var 1 ⊗ var 2) h ⊠ positive (var 4) hw
    ⊞ scaled (var 1) (same (var 0 ⊗ var 3) (var 2 ⊗ var 4) e)) refl

-- from this n on the points v + d/n are near v, as near as k asks
pub far_for : Direction → ℕ → ℕ
far_for d k = k * (size_of d.x + size_of d.y)

times_size : (k : ℕ) {z : ℤ} {s : ℕ} (r n : ℕ) → IsSize z s → s ≤ r → k * r < n → ((pos k *ℤ z) ≤ℤ pos n) × (neg_ℤ (pos n) ≤ℤ (pos k *ℤ z))
times_size k {z} {s} r n size wide far =
    let up : (pos k *ℤ z) ≤ℤ (pos k *ℤ pos r) = scale_≤ℤ {a = z} {b = pos r} {c = pos k} (omega (arith, linear))
    (omega (arith, linear, size.below, wide)) in
    let down : (pos k *ℤ neg_ℤ (pos r)) ≤ℤ (pos k *ℤ z) = scale_≤ℤ {a = neg_ℤ (pos r)} {b = z} {c = pos k} (omega (arith, linear))
    (omega (arith, linear, size.above, wide)) in
    (omega (arith, linear, up, far), omega (arith, linear, down, far, *ℤ-neg (pos k) (pos r)))

pub away_near : {v : Point} {d : Direction} {n : ℕ} {p : Point} (k : ℕ) → far_for d k < n → IsAway v d n p → IsNear v k p
unfolding far_for
away_near {v} {d} {n} {p} k far away =
    let x = times_size k (size_of d.x + size_of d.y) n (size_is d.x) (omega arith) far in
    let y = times_size k (size_of d.x + size_of d.y) n (size_is d.y) (omega arith) far in
    let some : pos 0 <ℤ pos n = omega (arith, linear, far) in
    let w : pos 0 <ℤ (v.w *ℤ p.w) = pos-*-pos v.heavy p.heavy in
    record {
      left = near_step' (pos n) (pos k) d.x (shift v p) (v.w *ℤ p.w) some w (away_shift away) x.1;
      right = near_step (pos n) (pos k) d.x (shift v p) (v.w *ℤ p.w) some w (away_shift away) x.0;
      bottom = near_step' (pos n) (pos k) d.y (rise v p) (v.w *ℤ p.w) some w (away_rise away) y.1;
      top = near_step (pos n) (pos k) d.y (rise v p) (v.w *ℤ p.w) some w (away_rise away) y.0;
    }

-- ---- a segment between points in two directions lies between these
cone_step : (k s t n l x y z d e v_w p_w q_w : ℤ) → k *ℤ z ≡ (s *ℤ x) +ℤ (t *ℤ y) → n *ℤ x ≡ d *ℤ (v_w *ℤ p_w)
    → l *ℤ y ≡ e *ℤ (v_w *ℤ q_w) → (k *ℤ (n *ℤ l)) *ℤ z ≡ (((s *ℤ l) *ℤ (v_w *ℤ p_w)) *ℤ d) +ℤ (((t *ℤ n) *ℤ (v_w *ℤ q_w)) *ℤ e)
cone_step k s t n l x y z d e v_w p_w q_w h f g =
    same_from ((var 0 ⊗ (var 3 ⊗ var 4)) ⊗ var 7)
    (((var 1 ⊗ var 4) ⊗ (var 10 ⊗ var 11)) ⊗ var 8 ⊕ ((var 2 ⊗ var 3) ⊗ (var 10 ⊗ var 12)) ⊗ var 9)
    (k ∷ s ∷ t ∷ n ∷ l ∷ x ∷ y ∷ z ∷ d ∷ e ∷ v_w ∷ p_w ∷ q_w ∷ [])
    (scaled (var 3 ⊗ var 4) (same (var 0 ⊗ var 7) (var 1 ⊗ var 5 ⊕ var 2 ⊗ var 6) h)
    ⊞ scaled (var 1 ⊗ var 4) (same (var 3 ⊗ var 5) (var 8 ⊗ (var 10 ⊗ var 11)) f)
    ⊞ scaled (var 2 ⊗ var 3) (same (var 4 ⊗ var 6) (var 9 ⊗ (var 10 ⊗ var 12)) g)) refl

-- the weights of a mix aren't both 0
pub some_weight : {a b m : Point} {s t : ℤ} → IsMix a b m s t → pos 0 <ℤ (s +ℤ t)
some_weight {a} {b} {m} {s} {t} mix =
    less_by (num (pos 0)) (var 1 ⊕ var 2) (mix.times ∷ s ∷ t ∷ a.w ∷ b.w ∷ m.w ∷ [])
    (λ denied. denied ⊠ (positive (var 3) a.heavy ⊞ positive (var 4) b.heavy)
    ⊞ natural (var 1) mix.first ⊠ positive (var 4) b.heavy ⊞ natural (var 2) mix.second ⊠ positive (var 3) a.heavy
    ⊞ positive (var 0) mix.some ⊠ positive (var 5) m.heavy ⊞ same (var 1 ⊗ var 3 ⊕ var 2 ⊗ var 4) (var 0 ⊗ var 5) (sym mix.mass)) refl

-- positive multiples of two weights of which one is positive have a positive sum
pub cone_some : (s t n l u w : ℤ) → pos 0 ≤ℤ s → pos 0 ≤ℤ t → pos 0 <ℤ (s +ℤ t) → pos 0 <ℤ n → pos 0 <ℤ l → pos 0 <ℤ u → pos 0 <ℤ w
    → pos 0 <ℤ (((s *ℤ l) *ℤ u) +ℤ ((t *ℤ n) *ℤ w))
cone_some s t n l u w hs ht h hn hl hu hw =
    less_by (num (pos 0)) ((var 0 ⊗ var 3) ⊗ var 4 ⊕ (var 1 ⊗ var 2) ⊗ var 5) (s ∷ t ∷ n ∷ l ∷ u ∷ w ∷ [])
    (λ denied. denied ⊞ natural (var 0) hs ⊠ whole (positive (var 3 ⊗ var 4) (pos-*-pos hl hu))
    ⊞ natural (var 1) ht ⊠ whole (positive (var 2 ⊗ var 5) (pos-*-pos hn hw))
    ⊞ positive (var 0 ⊕ var 1) h) refl

pub between_in_cone : {v : Point} {d e : Direction} {n l : ℕ} {p q m : Point} → 0 < n → 0 < l → IsAway v d n p → IsAway v e l q
    → IsOnSegment p q m → IsInCone v d e m
between_in_cone {v} {d} {e} {n} {l} {p} {q} {m} hn hl away away' on =
    let x = on.mix in
    let wp : pos 0 <ℤ (v.w *ℤ p.w) = pos-*-pos v.heavy p.heavy in
    let wq : pos 0 <ℤ (v.w *ℤ q.w) = pos-*-pos v.heavy q.heavy in
    let some_n : pos 0 <ℤ pos n = omega (arith, linear, hn) in
    let some_l : pos 0 <ℤ pos l = omega (arith, linear, hl) in
    record {
      i = (on.s *ℤ pos l) *ℤ (v.w *ℤ p.w);
      j = (on.t *ℤ pos n) *ℤ (v.w *ℤ q.w);
      first = nonneg-*-nonneg (nonneg-*-nonneg x.first (<ℤ_weaken some_l)) (<ℤ_weaken wp);
      second = nonneg-*-nonneg (nonneg-*-nonneg x.second (<ℤ_weaken some_n)) (<ℤ_weaken wq);
      some = cone_some on.s on.t (pos n) (pos l) (v.w *ℤ p.w) (v.w *ℤ q.w) x.first x.second (some_weight x) some_n some_l wp wq;
      times = x.times *ℤ (pos n *ℤ pos l);
      positive = pos-*-pos x.some (pos-*-pos some_n some_l);
      across = cone_step x.times on.s on.t (pos n) (pos l) (shift v p) (shift v q) (shift v m) d.x e.x v.w p.w q.w (shift_mix v x)
          (away_shift away) (away_shift away');
      above = cone_step x.times on.s on.t (pos n) (pos l) (rise v p) (rise v q) (rise v m) d.y e.y v.w p.w q.w (rise_mix v x)
          (away_rise away) (away_rise away');
    }
