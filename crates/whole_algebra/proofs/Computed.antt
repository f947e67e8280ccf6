-- What the code of an arithmetic function computes. In a goal a signed operand x of width w reads `to_z w (of_z w x)`, and so
-- does the result of each operation. `Computes t z m` says that the code's term t is exactly z, and that z is at most m in
-- absolute value; it is built by one word for each operation, along the code.
--
--     read w z h refl        a parameter, a field or a result z, where h : unsigned_abs z ≤ m
--     ranged w z f           the same of full range, where f : FitsSigned w z
--     literal z              a literal
--     via e d                what a call left, e : result ≡ t, where d is of t.  becomes d e: its number, rewritten by e
--     sum, difference, product, negation       an operation, before its result is stored
--     stored w d refl        the result at its width; a cast is a `stored` alone, at the new width
--     fits w d refl          the goal that the operation d does not overflow
--     d.is                   the goal that the result is z.  bounded d refl: that it is at most n in absolute value
--     less_test, less_fails, at_most_test, at_most_fails, same_test     `a < b`, `a <= b` and `a == b`, in a goal or as a branch has them
--
-- `refl` sees by computation that the bound is below half the width's power, so bounds are to be numerals, or powers of
-- numerals. The answers of
--
--     fn cross(a: i64, b: i64, c: i64, d: i64) -> i64
--         requires a_small { unsigned_abs a ≤ 2 ^ 24 } ..
--         ensures { result ≡ (a *ℤ d) -ℤ (b *ℤ c) }
--     {
--         a * d - b * c
--     }
--
-- are these, beside its products' `overflow_mul-result`. So it is checked in 7 seconds, where the search takes 25 and leaves both goals.
--
--     overflow_sub-result : goal.overflow_sub-result
--     overflow_sub-result c =
--         let first = stored w64 (product (read w64 c.args.a c.requires.a_small refl) (read w64 c.args.d c.requires.d_small refl)) refl in
--         let second = stored w64 (product (read w64 c.args.b c.requires.b_small refl) (read w64 c.args.c c.requires.c_small refl)) refl in
--         fits w64 (difference first second) refl
--
--     returns : goal.returns
--     returns c =
--         let first = .. in
--         let second = .. in
--         (stored w64 (difference first second) refl).is
use mir.Syntax.{w128}
use Rattle.std.proofs.Common.{w64, ℕ, ◌≡◌, ◌+◌, ◌*◌, ◌^◌, ◌≤◌, true, ltb, leb, ℤ, pos, ◌+ℤ◌, ◌-ℤ◌, ◌*ℤ◌, neg_ℤ, nat_abs, FitsSigned, to_z}
use Rattle.std.proofs.Common.{of_z, ◌<ℤ◌, ◌≤ℤ◌, ◌↔◌, IsTrue, false, nat_eq, ap, refl, sym, ◌∙◌, subst, subst₂, mul-le-mul, to_z-of_z}
use Rattle.std.proofs.Common.{le_trans, arith}
use Rattle.std.proofs.lemmas.Int.{unsigned_abs-mul, fits_signed_from_abs}
use borrow.Author.Differences.{ints}
use borrow.Author.Tests.{eqb-true, eq-eqb, ltb-true, leb-true}
use lib.Signed.{lt_z, le_z}
use mir.Syntax.{Width}
use mir.Val.{hbits}

pub record Computes (t z : ℤ) (m : ℕ) : Type 0 where
  pub is : t ≡ z
  pub small : nat_abs z ≤ m

pub fits : (w : Width) {t z : ℤ} {m : ℕ} → Computes t z m → ltb m (2 ^ hbits w) ≡ true → FitsSigned w t
fits w {t} {z} {m} e b = subst (λ (x : ℤ). FitsSigned w x) (sym e.is)
    (fits_signed_from_abs w z (omega (arith, e.small, ltb-true m (2 ^ hbits w) b)))

pub stored : (w : Width) {t z : ℤ} {m : ℕ} → Computes t z m → ltb m (2 ^ hbits w) ≡ true → Computes (to_z w (of_z w t)) z m
stored w {t} {z} {m} e b = record { is = to_z-of_z (fits w e b) ∙ e.is; small = e.small }

-- a term that a call left, by what the call ensures of it, and the number it is, by an equation
pub via : {t t' z : ℤ} {m : ℕ} → t' ≡ t → Computes t z m → Computes t' z m
via e c = record { is = e ∙ c.is; small = c.small }

pub becomes : {t z z' : ℤ} {m : ℕ} → Computes t z m → z ≡ z' → Computes t z' m
becomes {m} c e = record { is = c.is ∙ e; small = subst (λ (x : ℤ). nat_abs x ≤ m) e c.small }

pub known : {t z : ℤ} {m : ℕ} → t ≡ z → nat_abs z ≤ m → Computes t z m
known e h = record { is = e; small = h }

pub read : (w : Width) (z : ℤ) {m : ℕ} → nat_abs z ≤ m → ltb m (2 ^ hbits w) ≡ true → Computes (to_z w (of_z w z)) z m
read w z h b = stored w (known refl h) b

pub ranged : (w : Width) (z : ℤ) → FitsSigned w z → Computes (to_z w (of_z w z)) z (2 ^ hbits w)
ranged w z f = record { is = to_z-of_z f; small = omega (arith, ints, f) }

pub literal : (z : ℤ) → Computes z z (nat_abs z)
literal z = record { is = refl; small = omega arith }

abs_sum : (x y : ℤ) → nat_abs (x +ℤ y) ≤ nat_abs x + nat_abs y
abs_sum x y = omega (arith, ints)

abs_difference : (x y : ℤ) → nat_abs (x -ℤ y) ≤ nat_abs x + nat_abs y
abs_difference x y = omega (arith, ints)

abs_negation : (x : ℤ) → nat_abs (neg_ℤ x) ≡ nat_abs x
abs_negation x = omega (arith, ints)

pub sum : {s t x y : ℤ} {m n : ℕ} → Computes s x m → Computes t y n → Computes (s +ℤ t) (x +ℤ y) (m + n)
sum {x} {y} d e = record { is = λ i. d.is i +ℤ e.is i; small = omega (arith, d.small, e.small, abs_sum x y) }

pub difference : {s t x y : ℤ} {m n : ℕ} → Computes s x m → Computes t y n → Computes (s -ℤ t) (x -ℤ y) (m + n)
difference {x} {y} d e = record { is = λ i. d.is i -ℤ e.is i; small = omega (arith, d.small, e.small, abs_difference x y) }

pub product : {s t x y : ℤ} {m n : ℕ} → Computes s x m → Computes t y n → Computes (s *ℤ t) (x *ℤ y) (m * n)
product {x} {y} {m} {n} d e = record
    { is = λ i. d.is i *ℤ e.is i; small = subst (λ (k : ℕ). k ≤ m * n) (sym (unsigned_abs-mul x y)) (mul-le-mul d.small e.small) }

-- the code's `-t`
pub negation : {t z : ℤ} {m : ℕ} → Computes t z m → Computes (pos 0 -ℤ t) (neg_ℤ z) m
negation {z} {m} e = record { is = (λ i. pos 0 -ℤ e.is i) ∙ from_zero z; small = subst (λ (k : ℕ). k ≤ m) (sym (abs_negation z)) e.small }
  where
    from_zero : (x : ℤ) → pos 0 -ℤ x ≡ neg_ℤ x
    from_zero x = omega (arith, ints)

pub bounded : {t z : ℤ} {m n : ℕ} → Computes t z m → leb m n ≡ true → nat_abs t ≤ n
bounded {t} {z} {m} {n} e b = subst (λ (x : ℤ). nat_abs x ≤ n) (sym e.is) (le_trans e.small (leb-true m n b))

-- ---- tests of two such terms, as `a < b` and `a <= b` leave them
less_iff : (x y : ℤ) → IsTrue (lt_z x y) ↔ (x <ℤ y)
less_iff x y = (λ h. omega (arith, ints, h), λ h. grind (arith, ints))

at_most_iff : (x y : ℤ) → IsTrue (le_z x y) ↔ (x ≤ℤ y)
at_most_iff x y = (λ h. omega (arith, ints, h), λ h. grind (arith, ints))

pub less_test : {s t x y : ℤ} {m n : ℕ} → Computes s x m → Computes t y n → IsTrue (lt_z s t) ↔ (x <ℤ y)
less_test {x} {y} d e = subst₂ (λ (s t : ℤ). IsTrue (lt_z s t) ↔ (x <ℤ y)) (sym d.is) (sym e.is) (less_iff x y)

pub at_most_test : {s t x y : ℤ} {m n : ℕ} → Computes s x m → Computes t y n → IsTrue (le_z s t) ↔ (x ≤ℤ y)
at_most_test {x} {y} d e = subst₂ (λ (s t : ℤ). IsTrue (le_z s t) ↔ (x ≤ℤ y)) (sym d.is) (sym e.is) (at_most_iff x y)

pub less_fails : {s t x y : ℤ} {m n : ℕ} → Computes s x m → Computes t y n → lt_z s t ≡ false → y ≤ℤ x
less_fails {x} {y} d e h = let g : lt_z x y ≡ false = (λ i. lt_z (sym d.is i) (sym e.is i)) ∙ h in omega (arith, ints, g)

pub at_most_fails : {s t x y : ℤ} {m n : ℕ} → Computes s x m → Computes t y n → le_z s t ≡ false → y <ℤ x
at_most_fails {x} {y} d e h = let g : le_z x y ≡ false = (λ i. le_z (sym d.is i) (sym e.is i)) ∙ h in omega (arith, ints, g)

-- `a == b` compares the bits
pub same_test : (w : Width) {s t x y : ℤ} {m n : ℕ} → Computes s x m → ltb m (2 ^ hbits w) ≡ true → Computes t y n
    → ltb n (2 ^ hbits w) ≡ true → IsTrue (nat_eq (of_z w s) (of_z w t)) ↔ (x ≡ y)
same_test w {s} {t} {x} {y} d b e c = (forward, back)
  where
    forward : IsTrue (nat_eq (of_z w s) (of_z w t)) → x ≡ y
    forward h = sym (stored w d b).is ∙ ap (to_z w) (eqb-true (of_z w s) (of_z w t) h) ∙ (stored w e c).is

    back : x ≡ y → IsTrue (nat_eq (of_z w s) (of_z w t))
    back h = eq-eqb (of_z w s) (of_z w t) (ap (of_z w) (d.is ∙ h ∙ sym e.is))

-- a number of 64 bits, as goals show it
abbrev pub narrow : ℤ → ℤ
narrow z = to_z w64 (of_z w64 z)

-- a number of 128 bits, as goals show it
abbrev pub wide : ℤ → ℤ
wide z = to_z w128 (of_z w128 z)
