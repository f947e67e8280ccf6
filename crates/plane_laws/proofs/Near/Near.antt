-- Near a point: an affine function that is positive there stays positive, and what is near is convex.
use Rattle.std.proofs.Common.{◌≡◌, ℕ, ◌+◌, ◌≤◌, ◌*◌, ℤ, pos, negsuc, ◌+ℤ◌, ◌*ℤ◌, neg_ℤ, ◌<ℤ◌, ◌≤ℤ◌, [], ◌∷◌, ap, refl, sym, ◌∙◌, arith}
use Rattle.whole_algebra.proofs.Laws.{linear}
use Rattle.whole_algebra.proofs.Polynomials.{var, num, ◌⊕◌, ◌⊖◌, ◌⊗◌, minus, identity}
use Rattle.whole_algebra.proofs.Certificates.{natural, positive, at_most, less, same, at_most_by, less_by, whole, scaled, ◌⊞◌, ◌⊠◌}
use Rattle.whole_algebra.proofs.Signs.{scale_≤ℤ}
use Rattle.plane_laws.proofs.Turns.Turns.{point_at, ◌then◌}
use Rattle.plane_laws.specs.Plane.{Point, IsMix, IsOnSegment, rise, shift}
use Rattle.plane_laws.proofs.Near.Parted.{Affine, at_point, affine_mix, AreStepsBy, shift_steps, rise_steps}

-- ---- near: both coordinates of p differ from those of v by at most 1/n
pub record IsNear (v : Point) (n : ℕ) (p : Point) : Type 0 where
  pub left : neg_ℤ (v.w *ℤ p.w) ≤ℤ (pos n *ℤ shift v p)
  pub right : (pos n *ℤ shift v p) ≤ℤ (v.w *ℤ p.w)
  pub bottom : neg_ℤ (v.w *ℤ p.w) ≤ℤ (pos n *ℤ rise v p)
  pub top : (pos n *ℤ rise v p) ≤ℤ (v.w *ℤ p.w)

-- an affine function near v
affine_near : (f : Affine) (v p : Point) → at_point f p *ℤ v.w ≡ (at_point f v *ℤ p.w) +ℤ ((f.x *ℤ shift v p) +ℤ (f.y *ℤ rise v p))
unfolding shift rise
affine_near f v p =
    let pv = point_at 3 in
    let pp = point_at 6 in
    identity (((var 0 ⊗ pp.x ⊕ var 1 ⊗ pp.y) ⊕ var 2 ⊗ pp.w) ⊗ pv.w)
    (((var 0 ⊗ pv.x ⊕ var 1 ⊗ pv.y) ⊕ var 2 ⊗ pv.w) ⊗ pp.w ⊕ (var 0 ⊗ (pp.x ⊗ pv.w ⊖ pv.x ⊗ pp.w) ⊕ var 1 ⊗ (pp.y ⊗ pv.w ⊖ pv.y ⊗ pp.w)))
    (f.x ∷ f.y ∷ f.w ∷ (v then p then [])) refl

-- a product of two numbers of bounded size
product_bounded : (c z size most : ℤ) → neg_ℤ size ≤ℤ c → c ≤ℤ size → neg_ℤ most ≤ℤ z → z ≤ℤ most → neg_ℤ (size *ℤ most) ≤ℤ (c *ℤ z)
product_bounded c z size most h k l m =
    at_most_by (minus (var 2 ⊗ var 3)) (var 0 ⊗ var 1) (c ∷ z ∷ size ∷ most ∷ [])
    (λ denied. denied ⊞ denied
    ⊞ at_most (minus (var 2)) (var 0) h ⊠ at_most (minus (var 3)) (var 1) l
    ⊞ at_most (var 0) (var 2) k ⊠ at_most (var 1) (var 3) m) refl

stays_positive : (at_p at_v p_w v_w u v across above n size_u size_v : ℤ) → pos 0 ≤ℤ n → pos 0 <ℤ at_v → pos 0 <ℤ p_w → pos 0 <ℤ v_w
    → at_p *ℤ v_w ≡ (at_v *ℤ p_w) +ℤ ((u *ℤ across) +ℤ (v *ℤ above)) → neg_ℤ (size_u *ℤ (v_w *ℤ p_w)) ≤ℤ (u *ℤ (n *ℤ across))
    → neg_ℤ (size_v *ℤ (v_w *ℤ p_w)) ≤ℤ (v *ℤ (n *ℤ above)) → ((size_u +ℤ size_v) *ℤ v_w) <ℤ n → pos 0 <ℤ at_p
stays_positive at_p at_v p_w v_w u v across above n size_u size_v hn hv hp hw e hx hy small =
    let n' = var 8 in
    let wide = var 3 ⊗ var 2 in
    less_by (num (pos 0)) (var 0) (at_p ∷ at_v ∷ p_w ∷ v_w ∷ u ∷ v ∷ across ∷ above ∷ n ∷ size_u ∷ size_v ∷ [])
    (λ denied. denied ⊠ natural n' hn ⊠ positive (var 3) hw
    ⊞ scaled n' (same (var 0 ⊗ var 3) (var 1 ⊗ var 2 ⊕ (var 4 ⊗ var 6 ⊕ var 5 ⊗ var 7)) e)
    ⊞ whole (positive (var 1) hv) ⊠ natural n' hn ⊠ positive (var 2) hp
    ⊞ at_most (minus (var 9 ⊗ wide)) (var 4 ⊗ (n' ⊗ var 6)) hx
    ⊞ at_most (minus (var 10 ⊗ wide)) (var 5 ⊗ (n' ⊗ var 7)) hy
    ⊞ less ((var 9 ⊕ var 10) ⊗ var 3) n' small ⊠ positive (var 2) hp)
    refl

-- a size of a whole number
pub record IsSize (z : ℤ) (size : ℕ) : Type 0 where
  pub above : neg_ℤ (pos size) ≤ℤ z
  pub below : z ≤ℤ pos size

pub size_of : ℤ → ℕ
size_of (pos n) = n
size_of (negsuc n) = n + 1

pub size_is : (z : ℤ) → IsSize z (size_of z)
unfolding size_of
size_is (pos n) = record { above = omega (arith, linear); below = omega (arith, linear) }
size_is (negsuc n) = record { above = omega (arith, linear); below = omega (arith, linear) }

-- so near v the function is positive
pub reach_of : Affine → Point → ℕ
reach_of f v = (size_of f.x + size_of f.y) * size_of v.w + 1

within_reach : (a b c : ℕ) (w : ℤ) (n : ℕ) → w ≤ℤ pos c → (a + b) * c + 1 ≤ n → ((pos a +ℤ pos b) *ℤ w) <ℤ pos n
within_reach a b c w n h k =
    let grown : (pos (a + b) *ℤ w) ≤ℤ (pos (a + b) *ℤ pos c) = scale_≤ℤ {c = pos (a + b)} (omega (arith, linear)) h in
    omega (arith, linear, grown, k)

pub positive_near : (f : Affine) (v p : Point) (n : ℕ) → pos 0 <ℤ at_point f v → reach_of f v ≤ n → IsNear v n p → pos 0 <ℤ at_point f p
unfolding reach_of
positive_near f v p n h far near =
    stays_positive (at_point f p) (at_point f v) p.w v.w f.x f.y (shift v p) (rise v p) (pos n) (pos (size_of f.x)) (pos (size_of f.y))
    (omega (arith, linear)) h p.heavy v.heavy (affine_near f v p)
    (product_bounded f.x (pos n *ℤ shift v p) (pos (size_of f.x)) (v.w *ℤ p.w) (size_is f.x).above (size_is f.x).below near.left near.right)
    (product_bounded f.y (pos n *ℤ rise v p) (pos (size_of f.y)) (v.w *ℤ p.w) (size_is f.y).above (size_is f.y).below near.bottom near.top)
    (within_reach (size_of f.x) (size_of f.y) (size_of v.w) v.w n (size_is v.w).below far)

-- what is near is convex
near_side : (v_w s t k p_w q_w m_w x y z n : ℤ) → pos 0 <ℤ k → pos 0 ≤ℤ s → pos 0 ≤ℤ t → k *ℤ m_w ≡ (s *ℤ p_w) +ℤ (t *ℤ q_w)
    → k *ℤ z ≡ (s *ℤ x) +ℤ (t *ℤ y) → (n *ℤ x) ≤ℤ (v_w *ℤ p_w) → (n *ℤ y) ≤ℤ (v_w *ℤ q_w) → (n *ℤ z) ≤ℤ (v_w *ℤ m_w)
near_side v_w s t k p_w q_w m_w x y z n hk hs ht e f h l =
    at_most_by (var 10 ⊗ var 9) (var 0 ⊗ var 6) (v_w ∷ s ∷ t ∷ k ∷ p_w ∷ q_w ∷ m_w ∷ x ∷ y ∷ z ∷ n ∷ [])
    (λ denied. denied ⊠ positive (var 3) hk
    ⊞ natural (var 1) hs ⊠ at_most (var 10 ⊗ var 7) (var 0 ⊗ var 4) h
    ⊞ natural (var 2) ht ⊠ at_most (var 10 ⊗ var 8) (var 0 ⊗ var 5) l
    ⊞ scaled (var 0) (same (var 3 ⊗ var 6) (var 1 ⊗ var 4 ⊕ var 2 ⊗ var 5) e)
    ⊞ scaled (minus (var 10)) (same (var 3 ⊗ var 9) (var 1 ⊗ var 7 ⊕ var 2 ⊗ var 8) f)) refl

near_side' : (v_w s t k p_w q_w m_w x y z n : ℤ) → pos 0 <ℤ k → pos 0 ≤ℤ s → pos 0 ≤ℤ t → k *ℤ m_w ≡ (s *ℤ p_w) +ℤ (t *ℤ q_w)
    → k *ℤ z ≡ (s *ℤ x) +ℤ (t *ℤ y) → neg_ℤ (v_w *ℤ p_w) ≤ℤ (n *ℤ x) → neg_ℤ (v_w *ℤ q_w) ≤ℤ (n *ℤ y) → neg_ℤ (v_w *ℤ m_w) ≤ℤ (n *ℤ z)
near_side' v_w s t k p_w q_w m_w x y z n hk hs ht e f h l =
    at_most_by (minus (var 0 ⊗ var 6)) (var 10 ⊗ var 9) (v_w ∷ s ∷ t ∷ k ∷ p_w ∷ q_w ∷ m_w ∷ x ∷ y ∷ z ∷ n ∷ [])
    (λ denied. denied ⊠ positive (var 3) hk
    ⊞ natural (var 1) hs ⊠ at_most (minus (var 0 ⊗ var 4)) (var 10 ⊗ var 7) h
    ⊞ natural (var 2) ht ⊠ at_most (minus (var 0 ⊗ var 5)) (var 10 ⊗ var 8) l
    ⊞ scaled (var 0) (same (var 3 ⊗ var 6) (var 1 ⊗ var 4 ⊕ var 2 ⊗ var 5) e)
    ⊞ scaled (var 10) (same (var 3 ⊗ var 9) (var 1 ⊗ var 7 ⊕ var 2 ⊗ var 8) f)) refl

step_mix : {step : Point → Point → ℤ} {to_end from_end : Point → Affine} → AreStepsBy step to_end from_end
    → (v : Point) {p q m : Point} {s t : ℤ} (mix : IsMix p q m s t) → mix.times *ℤ step v m ≡ (s *ℤ step v p) +ℤ (t *ℤ step v q)
step_mix {step} {to_end} {from_end} st v {p} {q} {m} {s} {t} mix =
    sym (ap (λ z. mix.times *ℤ z) (st.ends v m)) ∙ affine_mix (to_end v) mix ∙ (λ i. (s *ℤ st.ends v p i) +ℤ (t *ℤ st.ends v q i))

pub shift_mix : (v : Point) {p q m : Point} {s t : ℤ} (mix : IsMix p q m s t)
    → mix.times *ℤ shift v m ≡ (s *ℤ shift v p) +ℤ (t *ℤ shift v q)
shift_mix = step_mix shift_steps

pub rise_mix : (v : Point) {p q m : Point} {s t : ℤ} (mix : IsMix p q m s t) → mix.times *ℤ rise v m ≡ (s *ℤ rise v p) +ℤ (t *ℤ rise v q)
rise_mix = step_mix rise_steps

pub near_mix : {v p q m : Point} {n : ℕ} → IsNear v n p → IsNear v n q → IsOnSegment p q m → IsNear v n m
near_mix {v} {p} {q} {m} {n} h k on =
    let x = on.mix in
    let e = shift_mix v x in
    let f = rise_mix v x in
    record {
      left = near_side' v.w on.s on.t x.times p.w q.w m.w (shift v p) (shift v q) (shift v m)
          (pos n) x.some x.first x.second x.mass e h.left k.left;
      right = near_side v.w on.s on.t x.times p.w q.w m.w (shift v p) (shift v q) (shift v m)
          (pos n) x.some x.first x.second x.mass e h.right k.right;
      bottom = near_side' v.w on.s on.t x.times p.w q.w m.w (rise v p) (rise v q) (rise v m)
          (pos n) x.some x.first x.second x.mass f h.bottom k.bottom;
      top = near_side v.w on.s on.t x.times p.w q.w m.w (rise v p) (rise v q) (rise v m)
          (pos n) x.some x.first x.second x.mass f h.top k.top;
    }
