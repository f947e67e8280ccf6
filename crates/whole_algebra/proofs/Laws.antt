-- The laws of ℤ that `lib.IntN` lacks: the product is associative, distributes over sums and differences, and passes negation
-- on. (`+ℤ_assoc`, `+ℤ_comm`, `*ℤ_comm`, `zero-*ℤ`, `*ℤ-zero`, `neg_ℤ-+ℤ` stand there.)
-- `linear` is what `omega` needs for sums, negation and order alone: a product stays one unknown. Give it, as in
--     omega (arith, linear, *ℤ-+ℤ a b c)
use Rattle.std.proofs.Common.{ℕ, ◌≡◌, ◌+◌, ◌*◌, ℤ, pos, negsuc, ◌+ℤ◌, ◌-ℤ◌, ◌*ℤ◌, neg_ℤ, ap, sym, ◌∙◌, arith}
use borrow.Author.Differences.{up, down, same_in, same_out, Apart-out, lt_T, le_T, lt_not, le_not, lt-true, lt-false, le-true, le-false}
use borrow.Author.Differences.{true-lt, false-lt, true-le, false-le, not_negative_out, lt_out, le_out, lt_in, le_in, below_in, at_most_in}
use borrow.Author.Differences.{not_negative_in, true_is_lt, false_is_lt, true_is_le, false_is_le, sum_is_lem, neg_is, product_is}
use lib.IntN.{*ℤ_comm}

pub ruleset linear = (
  same_out,
  Apart-out,
  lt_T,
  le_T,
  lt_not,
  le_not,
  lt-true,
  lt-false,
  le-true,
  le-false,
  true-lt,
  false-lt,
  true-le,
  false-le,
  not_negative_out,
  lt_out,
  le_out,
  same_in,
  lt_in,
  le_in,
  below_in,
  at_most_in,
  not_negative_in,
  true_is_lt,
  false_is_lt,
  true_is_le,
  false_is_le,
  sum_is_lem,
  neg_is,
)

up-* : (a b : ℤ) → up (a *ℤ b) ≡ up a * up b + down a * down b
up-* a b = (product_is a b).0

down-* : (a b : ℤ) → down (a *ℤ b) ≡ up a * down b + down a * up b
down-* a b = (product_is a b).1

pub *ℤ_assoc : (a b c : ℤ) → (a *ℤ b) *ℤ c ≡ a *ℤ (b *ℤ c)
*ℤ_assoc a b c = same_in ((a *ℤ b) *ℤ c) (a *ℤ (b *ℤ c)) (simp (up-*, down-*) (omega arith))

-- what a product with a difference of naturals needs: the equation of the sum's halves, times a number
spread : (a u d bu bd cu cd : ℕ) → u + bd + cd ≡ d + bu + cu → a * u + a * bd + a * cd ≡ a * d + a * bu + a * cu
spread a u d bu bd cu cd e = omega (arith, ap (λ (n : ℕ). a * n) e)

pub *ℤ-+ℤ : (a b c : ℤ) → a *ℤ (b +ℤ c) ≡ a *ℤ b +ℤ a *ℤ c
*ℤ-+ℤ a b c = same_in (a *ℤ (b +ℤ c)) (a *ℤ b +ℤ a *ℤ c)
    (omega (
      arith,
      up-* a (b +ℤ c),
      down-* a (b +ℤ c),
      up-* a b,
      down-* a b,
      up-* a c,
      down-* a c,
      sum_is_lem (a *ℤ b) (a *ℤ c),
      spread
          (up a) (up (b +ℤ c)) (down (b +ℤ c)) (up b) (down b) (up c) (down c) (sum_is_lem b c),
      spread (down a) (up (b +ℤ c)) (down (b +ℤ c))
          (up b) (down b) (up c) (down c) (sum_is_lem b c),
    ))

pub +ℤ-*ℤ : (a b c : ℤ) → (a +ℤ b) *ℤ c ≡ a *ℤ c +ℤ b *ℤ c
+ℤ-*ℤ a b c = *ℤ_comm (a +ℤ b) c ∙ *ℤ-+ℤ c a b ∙ (λ i. *ℤ_comm c a i +ℤ *ℤ_comm c b i)

pub neg-*ℤ : (a b : ℤ) → neg_ℤ a *ℤ b ≡ neg_ℤ (a *ℤ b)
neg-*ℤ a b = same_in (neg_ℤ a *ℤ b) (neg_ℤ (a *ℤ b)) (simp (up-*, down-*, up-neg, down-neg) (omega arith))
  where
    up-neg : (c : ℤ) → up (neg_ℤ c) ≡ down c
    up-neg c = (neg_is c).0

    down-neg : (c : ℤ) → down (neg_ℤ c) ≡ up c
    down-neg c = (neg_is c).1

pub *ℤ-neg : (a b : ℤ) → a *ℤ neg_ℤ b ≡ neg_ℤ (a *ℤ b)
*ℤ-neg a b = *ℤ_comm a (neg_ℤ b) ∙ neg-*ℤ b a ∙ ap neg_ℤ (*ℤ_comm b a)

pub *ℤ--ℤ : (a b c : ℤ) → a *ℤ (b -ℤ c) ≡ a *ℤ b -ℤ a *ℤ c
*ℤ--ℤ a b c = *ℤ-+ℤ a b (neg_ℤ c) ∙ ap (λ x. a *ℤ b +ℤ x) (*ℤ-neg a c)

pub -ℤ-*ℤ : (a b c : ℤ) → (a -ℤ b) *ℤ c ≡ a *ℤ c -ℤ b *ℤ c
-ℤ-*ℤ a b c = +ℤ-*ℤ a (neg_ℤ b) c ∙ ap (λ x. a *ℤ c +ℤ x) (neg-*ℤ b c)

-- 1 and -1, as the literals that code and clauses have
pub one-*ℤ : (a : ℤ) → pos 1 *ℤ a ≡ a
one-*ℤ a = same_in (pos 1 *ℤ a) a (omega (arith, product_is (pos 1) a))

pub *ℤ_one : (a : ℤ) → a *ℤ pos 1 ≡ a
*ℤ_one a = *ℤ_comm a (pos 1) ∙ one-*ℤ a

pub minus_one-*ℤ : (a : ℤ) → negsuc 0 *ℤ a ≡ neg_ℤ a
minus_one-*ℤ a = same_in (negsuc 0 *ℤ a) (neg_ℤ a) (omega (arith, product_is (negsuc 0) a, neg_is a))

-- two factors change places at the head of a product
pub *ℤ_left_comm : (a b c : ℤ) → a *ℤ (b *ℤ c) ≡ b *ℤ (a *ℤ c)
*ℤ_left_comm a b c = sym (*ℤ_assoc a b c) ∙ ap (λ x. x *ℤ c) (*ℤ_comm a b) ∙ *ℤ_assoc b a c
