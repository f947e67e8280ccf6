-- Whole heights next to a point.
use Rattle.std.proofs.Common.{◌≡◌, ◌/◌, ℤ, pos, negsuc, ◌+ℤ◌, ◌*ℤ◌, neg_ℤ, ◌<ℤ◌, ◌≤ℤ◌, nat_abs, ◌≤◌, ap, refl, ◌∙◌, arith}
use Rattle.std.specs.Int.{int_div_euclid}
use Rattle.std.proofs.lemmas.Int.{ints}
use Rattle.whole_algebra.proofs.Laws.{linear, +ℤ-*ℤ, one-*ℤ, neg-*ℤ}
use Rattle.whole_algebra.proofs.Signs.{cancel_<ℤ_right, cancel_≤ℤ_right, scale_≤ℤ_right, <ℤ_weaken, ≤ℤ-<ℤ_trans, ≤ℤ_trans}
use mir.Syntax.{w128}
use Rattle.whole_algebra.proofs.Computed.{Computes, read, known, stored, sum, literal, wide}
use Rattle.plane_exact.proofs.Laws.{numerator_size, weight_size}
use Rattle.plane_exact.specs.Limits.{limit, largest, heaviest}
use Rattle.plane_exact.specs.Nodes.{IsFraction}
use Rattle.plane_laws.specs.Plane.{Point}
use Rattle.y_index.specs.Levels.{IsLevel}

-- the whole number f is the floor of y/w
pub record IsFloor (y w f : ℤ) : Type 0 where
  pub low : (f *ℤ w) ≤ℤ y
  pub high : y <ℤ ((f +ℤ pos 1) *ℤ w)

-- a height at most f
pub low_iff : (y w f z : ℤ) → pos 0 <ℤ w → IsFloor y w f → (z ≤ℤ f → (z *ℤ w) ≤ℤ y) × ((z *ℤ w) ≤ℤ y → z ≤ℤ f)
low_iff y w f z h k = (
  λ l. ≤ℤ_trans (scale_≤ℤ_right (<ℤ_weaken h) l) k.low,
  λ l. let m : z <ℤ (f +ℤ pos 1) = cancel_<ℤ_right w z (f +ℤ pos 1) h (≤ℤ-<ℤ_trans l k.high) in omega (arith, linear, m),
)

-- where y/w is whole, it is its own ceiling
pub IsLevel-whole : (p : Point) (f : ℤ) → f *ℤ p.w ≡ p.y → IsLevel p f f
IsLevel-whole p f e =
    record {
      low = λ z. low_iff p.y p.w f z p.heavy k;
      high = λ z. (
        λ l.
            let m : (f *ℤ p.w) ≤ℤ (z *ℤ p.w) = scale_≤ℤ_right (<ℤ_weaken p.heavy) l in omega (arith, linear, m, e),
        λ l. cancel_≤ℤ_right p.w f z p.heavy (omega (arith, linear, l, e)),
      );
    }
  where
    k : IsFloor p.y p.w f
    k = record { low = omega (arith, linear, e); high = omega (arith, linear, e, p.heavy, +ℤ-*ℤ f (pos 1) p.w, one-*ℤ p.w) }

-- else the ceiling is one more than the floor
pub IsLevel-between : (p : Point) (f : ℤ) → IsFloor p.y p.w f → ¬ (f *ℤ p.w ≡ p.y) → IsLevel p f (f +ℤ pos 1)
IsLevel-between p f k n =
    record {
      low = λ z. low_iff p.y p.w f z p.heavy k;
      high = λ z. (
        λ l.
            let m : ((f +ℤ pos 1) *ℤ p.w) ≤ℤ (z *ℤ p.w) = scale_≤ℤ_right (<ℤ_weaken p.heavy) l in
            let h = k.high in
            omega (arith, linear, m, h),
        λ l.
            let m : f <ℤ z = cancel_<ℤ_right p.w f z p.heavy (strict (≤ℤ_trans k.low l) (λ e. n (at_end z l e))) in
            omega (arith, linear, m),
      );
    }
  where
    strict : {a b : ℤ} → a ≤ℤ b → ¬ (a ≡ b) → a <ℤ b
    strict {a} {b} h m = grind (arith, linear)

    at_end : (z : ℤ) → p.y ≤ℤ (z *ℤ p.w) → f *ℤ p.w ≡ z *ℤ p.w → f *ℤ p.w ≡ p.y
    at_end z l e = let h = k.low in omega (arith, linear, l, e, h)

past : (y w f : ℤ) → y <ℤ ((f *ℤ w) +ℤ w) → y <ℤ ((f +ℤ pos 1) *ℤ w)
past y w f h = omega (arith, linear, h, +ℤ-*ℤ f (pos 1) w, one-*ℤ w)

-- the quotient that the code works out
pub IsFloor-quotient : (y w : ℤ) → pos 0 <ℤ w → IsFloor y w (int_div_euclid y w)
IsFloor-quotient (pos a) (pos b) h =
    record { low = omega (arith, ints, h); high = past (pos a) (pos b) (pos (a / b)) (omega (arith, ints, h)) }
IsFloor-quotient (negsuc a) (pos b) h =
    record { low = omega (arith, ints, h); high = past (negsuc a) (pos b) (negsuc (a / b)) (omega (arith, ints, h)) }
IsFloor-quotient y (negsuc b) h = absurd h.lt

-- the floor of a fraction within the limit is within the limit
pub IsFloor-size : (y w f : ℤ) → IsFraction y w → IsFloor y w f → nat_abs f ≤ limit
IsFloor-size y w f h k =
    let low : neg_ℤ (pos limit) <ℤ (f +ℤ pos 1) = cancel_<ℤ_right w (neg_ℤ (pos limit))
    (f +ℤ pos 1) h.heavy (let a = h.low in let b = k.high in omega (arith, linear, a, b, neg-*ℤ (pos limit) w)) in
    let high : f ≤ℤ pos limit = cancel_≤ℤ_right w f (pos limit) h.heavy (let a = h.high in let b = k.low in omega (arith, linear, a, b)) in
    omega (arith, ints, low, high)

-- ---- what the code works out, from the two numbers of a node's height
pub height : (y w y' : ℤ) → IsFraction y w → y' ≡ y → Computes (wide y') y largest
height y w y' h e = let r = read w128 y (numerator_size y w h) refl in record { is = ap wide e ∙ r.is; small = r.small }

pub weight : (y w w' : ℤ) → IsFraction y w → w' ≡ w → Computes (wide w') w heaviest
weight y w w' h e = let r = read w128 w (weight_size y w h) refl in record { is = ap wide e ∙ r.is; small = r.small }

pub quotient : (y w y' w' q : ℤ) → IsFraction y w → y' ≡ y → w' ≡ w → q ≡ int_div_euclid (wide y') (wide w') →
    Computes (wide q) (int_div_euclid y w) limit
quotient y w y' w' q h ey ew eq =
    stored w128
    (known (eq ∙ (λ i. int_div_euclid ((height y w y' h ey).is i) ((weight y w w' h ew).is i)))
    (IsFloor-size y w (int_div_euclid y w) h (IsFloor-quotient y w h.heavy))) refl

pub next : (q : ℤ) {f : ℤ} → Computes (wide q) f limit → Computes (wide (wide q +ℤ pos 1)) (f +ℤ pos 1) 1048576
next q e = stored w128 (sum e (literal (pos 1))) refl
