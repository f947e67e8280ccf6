-- Lowest terms: a direction divided by the greatest common divisor of its parts.
use Rattle.std.proofs.Common.{◌≡◌, ℕ, ◌<◌, ◌≤◌, zero, suc, le_trans, ℤ, pos, ◌*ℤ◌, ◌<ℤ◌, unsigned_abs, FitsSigned, w64, ap, sym, ◌∙◌, subst}
use Rattle.std.proofs.Common.{subst₂, to_z, to_z-of_z, arith}
use Rattle.std.specs.Int.{◌∣◌, IsGcd}
use Rattle.std.specs.Int.RustNames.{int_div}
use Rattle.std.proofs.lemmas.Int.{ints, quot_is, quot_fits, unsigned_abs-mul}
use Rattle.std.proofs.lemmas.Nat.Gcd.{le_of_dvd}
use Rattle.std.proofs.Math.Nat.{eq-zero_of_zero-dvd, mul-le-mul_left}
use Rattle.whole_algebra.proofs.Laws.{one-*ℤ}
use Rattle.whole_algebra.proofs.Signs.{by_sign, <ℤ_apart, pos_nonzero}
use Rattle.whole_algebra.proofs.Divisors.{exact_quotient}
use Rattle.plane_exact.proofs.Laws.{IsReduced-divided}
use Rattle.whole_algebra.proofs.Computed.{narrow}
use Rattle.plane_exact.specs.Limits.{farthest}
use Rattle.plane_exact.specs.Directions.{IsWay}
use Rattle.plane_exact.specs.declared.dir.Dir.{Dir}
use Rattle.fan_order.specs.Rays.{IsRayOf}
use lib.IntN.{*ℤ_comm, zero-*ℤ}

above_zero : (x : ℤ) → ¬ (x ≡ pos 0) → 0 < unsigned_abs x
above_zero x n = by_sign x (λ h. omega (arith, ints, h)) (λ e. absurd (n e)) (λ h. omega (arith, ints, h))

zero_abs : (x : ℤ) → unsigned_abs x ≡ 0 → x ≡ pos 0
zero_abs x e = omega (arith, ints, e)

pub way_size : (x y : ℤ) → IsWay x y → (unsigned_abs x ≤ farthest) × (unsigned_abs y ≤ farthest)
way_size x y w =
    let a = w.left in let b = w.right in let c = w.bottom in let d = w.top in (omega (arith, ints, a, b), omega (arith, ints, c, d))

-- the divisor is positive
pub divisor_pos : (x y : ℤ) (g : ℕ) → ¬ ((x ≡ pos 0) × (y ≡ pos 0)) → IsGcd (unsigned_abs x) (unsigned_abs y) g → 0 < g
divisor_pos x y zero n h = absurd (n (zero_abs x (eq-zero_of_zero-dvd h.0), zero_abs y (eq-zero_of_zero-dvd h.1)))
divisor_pos x y (suc g) n h = omega arith

-- and no greater than a part that isn't 0
pub divisor_size : (x y : ℤ) (g : ℕ) → IsWay x y → IsGcd (unsigned_abs x) (unsigned_abs y) g → g ≤ farthest
divisor_size x y g w h = by_sign x (λ k. first (<ℤ_apart k)) (λ e. second (λ z. w.turned (e, z))) (λ k. first (pos_nonzero k))
  where
    first : ¬ (x ≡ pos 0) → g ≤ farthest
    first n = le_trans (le_of_dvd (above_zero x n) h.0) (way_size x y w).0

    second : ¬ (y ≡ pos 0) → g ≤ farthest
    second n = le_trans (le_of_dvd (above_zero y n) h.1) (way_size x y w).1

-- what the code's `x / d` gives, for a divisor that was counted without a sign
pub counted : (g : ℕ) → g ≤ farthest → to_z w64 g ≡ pos g
counted g h = omega (arith, ints, h)

part_fits : (x : ℤ) → unsigned_abs x ≤ farthest → FitsSigned w64 x
part_fits x h = omega (arith, ints, h)

counted_fits : (g : ℕ) → g ≤ farthest → FitsSigned w64 (pos g)
counted_fits g h = omega (arith, ints, h)

pub divided :
    (x : ℤ) (g : ℕ) → unsigned_abs x ≤ farthest → 0 < g → g ≤ farthest → g ∣ unsigned_abs x
    → narrow (int_div (narrow x) (to_z w64 g)) *ℤ pos g ≡ x
divided x g k h l v =
    let f = part_fits x k in
    let e = counted_fits g l in
    ap (λ d. narrow (int_div (narrow x) d) *ℤ pos g) (counted g l ∙ sym (to_z-of_z e))
    ∙ ap (λ z. z *ℤ pos g) (quot_is w64 x (pos g) f e (quot_fits w64 x (pos g) f (omega (arith, ints, h)))) ∙ exact_quotient x g v

part_size : (x u : ℤ) (g : ℕ) → 0 < g → u *ℤ pos g ≡ x → unsigned_abs u ≤ unsigned_abs x
part_size x u g h e =
    subst (λ (n : ℕ). unsigned_abs u ≤ n) (sym (unsigned_abs-mul u (pos g)) ∙ ap unsigned_abs e)
    (omega (arith, h, mul-le-mul_left (unsigned_abs u) h))

part_zero : (x u d : ℤ) → u *ℤ d ≡ x → u ≡ pos 0 → x ≡ pos 0
part_zero x u d e z = sym e ∙ ap (λ (v : ℤ). v *ℤ d) z ∙ zero-*ℤ d

-- the two quotients
pub record AreQuotients (x y u v : ℤ) (g : ℕ) : Type 0 where
  pub some : 0 < g
  pub across : u *ℤ pos g ≡ x
  pub above : v *ℤ pos g ≡ y

pub quotient_sizes : {x y u v : ℤ} {g : ℕ} → AreQuotients x y u v g → (unsigned_abs u ≤ unsigned_abs x) × (unsigned_abs v ≤ unsigned_abs y)
quotient_sizes {x} {y} {u} {v} {g} q = (part_size x u g q.some q.across, part_size y v g q.some q.above)

pub IsWay-quotient : {x y u v : ℤ} {g : ℕ} → IsWay x y → AreQuotients x y u v g → IsWay u v
IsWay-quotient {x} {y} {u} {v} {g} w q =
    let a = (quotient_sizes q).0 in
    let b = (quotient_sizes q).1 in
    let c = (way_size x y w).0 in
    let d = (way_size x y w).1 in
    record {
      left = omega (arith, ints, a, c);
      right = omega (arith, ints, a, c);
      bottom = omega (arith, ints, b, d);
      top = omega (arith, ints, b, d);
      turned = λ z. w.turned (part_zero x u (pos g) q.across z.0, part_zero y v (pos g) q.above z.1);
    }

pub IsRayOf-quotient :
    (d r : Dir) (g : ℕ) → AreQuotients d.dx d.dy r.dx r.dy g → IsGcd (unsigned_abs d.dx) (unsigned_abs d.dy) g → IsRayOf d r
IsRayOf-quotient d r g q h = record {
  same = record {
    m = pos 1;
    n = pos g;
    some = record { lt = tt };
    other = positive;
    across = one-*ℤ d.dx ∙ sym q.across ∙ *ℤ_comm r.dx (pos g);
    above = one-*ℤ d.dy ∙ sym q.above ∙ *ℤ_comm r.dy (pos g);
  };
  lowest =
      let l = IsReduced-divided d.dx d.dy d.dy r.dx r.dy r.dy (pos g) positive q.across q.above q.above
      (λ e a b _. h.2 e a b) in record { only = λ e a b. l.only e a b b };
}
  where
    positive : pos 0 <ℤ pos g
    positive = let k = q.some in omega (arith, ints, k)

-- ---- what the code's steps say of each other
pub record Parts (x y : ℤ) (a b g : ℕ) : Type 0 where
  pub way : IsWay x y
  pub a_is : a ≡ unsigned_abs (narrow x)
  pub b_is : b ≡ unsigned_abs (narrow y)
  pub gcd : IsGcd a b g

-- they are what the code computes
pub parts_of : {x y : ℤ} {a b g : ℕ} → IsWay x y → a ≡ unsigned_abs (narrow x) → b ≡ unsigned_abs (narrow y) → IsGcd a b g
    → Parts x y a b g
parts_of way a_is b_is gcd = record { way = way; a_is = a_is; b_is = b_is; gcd = gcd }

module _ {x y : ℤ} {a b g : ℕ} (p : Parts x y a b g) where
  pub gcd_of : IsGcd (unsigned_abs x) (unsigned_abs y) g
  gcd_of =
      let sizes = way_size x y p.way in
      subst₂ (λ (m n : ℕ). IsGcd m n g) (p.a_is ∙ ap unsigned_abs (to_z-of_z (part_fits x sizes.0)))
      (p.b_is ∙ ap unsigned_abs (to_z-of_z (part_fits y sizes.1))) p.gcd

  pub some_of : 0 < g
  some_of = divisor_pos x y g p.way.turned gcd_of

  pub size_of : g ≤ farthest
  size_of = divisor_size x y g p.way gcd_of

  quotient_fits : (z : ℤ) → unsigned_abs z ≤ farthest → FitsSigned w64 (int_div (narrow z) (to_z w64 g))
  quotient_fits z h =
      let k = some_of in
      subst₂ (λ (m n : ℤ). FitsSigned w64 (int_div m n)) (sym (to_z-of_z (part_fits z h))) (sym (counted g size_of))
      (quot_fits w64 z (pos g) (part_fits z h) (omega (arith, ints, k)))

  pub first_fits : FitsSigned w64 (int_div (narrow x) (to_z w64 g))
  first_fits = quotient_fits x (way_size x y p.way).0

  pub second_fits : FitsSigned w64 (int_div (narrow y) (to_z w64 g))
  second_fits = quotient_fits y (way_size x y p.way).1

  pub quotients_of : AreQuotients x y (narrow (int_div (narrow x) (to_z w64 g))) (narrow (int_div (narrow y) (to_z w64 g))) g
  quotients_of =
      let sizes = way_size x y p.way in
      record { some = some_of; across = divided x g sizes.0 some_of size_of gcd_of.0; above = divided y g sizes.1 some_of size_of gcd_of.1 }
