-- Reducing a fraction: what is left after a division by the greatest common divisor.
use Rattle.std.proofs.Common.{◌≡◌, ℕ, ◌*◌, ◌<◌, ℤ, pos, negsuc, ◌*ℤ◌, neg_ℤ, ◌<ℤ◌, ◌≤ℤ◌, FitsSigned, unsigned_abs, [], ◌∷◌, refl, sym, ◌∙◌}
use Rattle.std.proofs.Common.{ap, subst, to_z-of_z, arith}
use Rattle.std.proofs.lemmas.Int.{ints, quot_is, quot_fits, unsigned_abs-mul}
use Rattle.std.specs.Int.{◌∣◌}
use Rattle.std.specs.Int.RustNames.{int_div}
use Rattle.std.proofs.Math.Nat.{mul-dvd-mul_right, dvd_of_mul-dvd-mul_right, eq-one_of_dvd-one, one-mul}
use Rattle.whole_algebra.proofs.Laws.{linear, *ℤ-neg}
use Rattle.whole_algebra.proofs.Polynomials.{var, num, ◌⊗◌, identity}
use Rattle.whole_algebra.proofs.Divisors.{exact_quotient}
use Rattle.whole_algebra.proofs.Signs.{pos_factor, cancel_≤ℤ, scale_≤ℤ, <ℤ_weaken}
use Rattle.plane_exact.specs.Limits.{limit, heaviest}
use mir.Syntax.{w128}
use Rattle.whole_algebra.proofs.Computed.{wide}
use Rattle.plane_exact.specs.Nodes.{IsFraction, IsReduced}
use lib.IntN.{*ℤ_comm}

-- a fraction divided above and below
pub IsFraction-divided : (x w u v d : ℤ) → pos 0 <ℤ d → u *ℤ d ≡ x → v *ℤ d ≡ w → IsFraction x w → IsFraction u v
IsFraction-divided x w u v d hd ex ew f = record { heavy = heavy; light = light; low = low; high = high }
  where
    heavy : pos 0 <ℤ v
    heavy = pos_factor d v hd (omega (arith, linear, f.heavy, ew, *ℤ_comm d v))

    light : v <ℤ pos heaviest
    light = let one : (v *ℤ pos 1) ≤ℤ (v *ℤ d) = scale_≤ℤ (<ℤ_weaken heavy) (omega (arith, linear, hd)) in
        omega (arith, ints, f.light, ew, one)

    scaled : pos limit *ℤ w ≡ d *ℤ (pos limit *ℤ v)
    scaled =
        ap (λ z. pos limit *ℤ z) (sym ew)
        ∙ identity (num (pos limit) ⊗ (var 0 ⊗ var 1)) (var 1 ⊗ (num (pos limit) ⊗ var 0)) (v ∷ d ∷ []) refl

    turned : d *ℤ neg_ℤ (pos limit *ℤ v) ≡ neg_ℤ (d *ℤ (pos limit *ℤ v))
    turned = *ℤ-neg d (pos limit *ℤ v)

    low : neg_ℤ (pos limit *ℤ v) ≤ℤ u
    low = cancel_≤ℤ d (neg_ℤ (pos limit *ℤ v)) u hd (omega (arith, linear, f.low, scaled, turned, ex, *ℤ_comm d u))

    high : u ≤ℤ (pos limit *ℤ v)
    high = cancel_≤ℤ d u (pos limit *ℤ v) hd (omega (arith, linear, f.high, scaled, ex, *ℤ_comm d u))

-- whole numbers, as fractions
pub IsFraction-whole : (x : ℤ) → negsuc 1048574 ≤ℤ x → x ≤ℤ pos limit → IsFraction x (pos 1)
IsFraction-whole x h k =
    record { heavy = record { lt = tt }; light = record { lt = tt }; low = omega (arith, ints, h); high = omega (arith, ints, k) }

pub IsReduced-whole : (x y w : ℤ) → w ≡ pos 1 → IsReduced x y w
IsReduced-whole x y w e = record { only = λ d hx hy hw. eq-one_of_dvd-one (subst (λ (n : ℕ). d ∣ n) (ap unsigned_abs e) hw) }

-- the quotients by the greatest common divisor have no common divisor
pub IsReduced-divided :
    (x y w u v t d : ℤ) → pos 0 <ℤ d → u *ℤ d ≡ x → v *ℤ d ≡ y → t *ℤ d ≡ w
    → ((e : ℕ) → e ∣ unsigned_abs x → e ∣ unsigned_abs y → e ∣ unsigned_abs w → e ∣ unsigned_abs d) → IsReduced u v t
IsReduced-divided x y w u v t d hd ex ey ew greatest = record { only = only }
  where
    times : (e : ℕ) (z s : ℤ) → z *ℤ d ≡ s → e ∣ unsigned_abs z → e * unsigned_abs d ∣ unsigned_abs s
    times e z s h k =
        subst (λ (n : ℕ). e * unsigned_abs d ∣ n) (sym (unsigned_abs-mul z d) ∙ ap unsigned_abs h) (mul-dvd-mul_right e k (unsigned_abs d))

    only : (e : ℕ) → e ∣ unsigned_abs u → e ∣ unsigned_abs v → e ∣ unsigned_abs t → e ≡ 1
    only e hu hv ht =
        let all : e * unsigned_abs d ∣ 1 * unsigned_abs d = subst (λ (n : ℕ). e * unsigned_abs d ∣ n) (sym (one-mul (unsigned_abs d)))
        (greatest (e * unsigned_abs d) (times e u x ex hu) (times e v y ey hv) (times e t w ew ht)) in
        let some : 0 < unsigned_abs d = omega (arith, ints, hd) in
        eq-one_of_dvd-one (dvd_of_mul-dvd-mul_right e some all)

-- what the code's `x / d` gives
pub divided :
    (x d : ℤ) → FitsSigned w128 x → FitsSigned w128 d → pos 0 <ℤ d → unsigned_abs d ∣ unsigned_abs (wide x)
    → wide (int_div (wide x) (wide d)) *ℤ d ≡ x
divided x (pos n) f g h v =
    ap (λ z. z *ℤ pos n) (quot_is w128 x (pos n) f g (quot_fits w128 x (pos n) f h))
    ∙ exact_quotient x n (subst (λ (z : ℤ). n ∣ unsigned_abs z) (to_z-of_z f) v)
divided x (negsuc n) f g h v = absurd h.lt

-- the triple (u, v, t) times d is (x, y, w), so they stand for one point
pub crossed : (x w u v d : ℤ) → u *ℤ d ≡ x → v *ℤ d ≡ w → u *ℤ w ≡ x *ℤ v
crossed x w u v d ex ew =
    ap (λ z. u *ℤ z) (sym ew) ∙ identity (var 0 ⊗ (var 1 ⊗ var 2)) ((var 0 ⊗ var 2) ⊗ var 1) (u ∷ v ∷ d ∷ []) refl ∙ ap (λ z. z *ℤ v) ex
