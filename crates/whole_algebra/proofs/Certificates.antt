-- Inequalities of polynomials over ℤ, by certificates. Known facts are polynomials that are positive, at least 0, or 0 under
-- one list of values; they are added, `⊞`, and multiplied, `⊠`. A goal follows where its difference is such a combination
-- (`less_from`, `at_most_from`, `same_from`), or where its denial and the facts come to a strict 0 < 0 (`less_by`,
-- `at_most_by`, `impossible_by`). Either is seen by computation: the last argument is `refl`.
--
--     rearranged : (a b c d : ℤ) → a <ℤ b → c <ℤ d → (a *ℤ d +ℤ b *ℤ c) <ℤ (a *ℤ c +ℤ b *ℤ d)
--     rearranged a b c d h k =
--         let vs = a ∷ b ∷ c ∷ d ∷ [] in
--         less_from (var 0 ⊗ var 3 ⊕ var 1 ⊗ var 2) (var 0 ⊗ var 2 ⊕ var 1 ⊗ var 3) vs
--             (less (var 0) (var 1) h ⊠ less (var 2) (var 3) k) refl
--
-- With the denial of the goal, here that d is at most a, where a positive factor is to be cancelled:
--
--     between : (a b c d : ℤ) → pos 0 <ℤ c → (a *ℤ c) ≤ℤ b → b <ℤ (c *ℤ d) → a <ℤ d
--     between a b c d h k l =
--         let vs = a ∷ b ∷ c ∷ d ∷ [] in
--         less_by (var 0) (var 3) vs
--             (λ denied. denied ⊠ positive (var 2) h ⊞ at_most (var 0 ⊗ var 2) (var 1) k ⊞ less (var 1) (var 2 ⊗ var 3) l) refl
use Rattle.std.proofs.Common.{ℕ, zero, suc, ◌≡◌, true, List, ℤ, pos, ◌+ℤ◌, ◌*ℤ◌, ◌<ℤ◌, ◌≤ℤ◌, ap, refl, ◌∙◌, arith}
use lib.IntN.{*ℤ-zero, zero-*ℤ}
use Rattle.std.proofs.lemmas.Int.{by_lt_z}
use Rattle.whole_algebra.proofs.Laws.{linear}
use Rattle.whole_algebra.proofs.Polynomials.{Poly, num, ◌⊕◌, ◌⊖◌, ◌⊗◌, value, normal, is_none, is_zero}
use Rattle.whole_algebra.proofs.Signs.{pos-*-pos, nonneg-*-nonneg, square_nonneg, <ℤ_weaken}

infixl 4 ◌⊞◌
infixl 5 ◌⊠◌
-- what is known of a polynomial's value
pub data Sense : Type 0 where
  above : Sense
  not_below : Sense
  nothing : Sense

abbrev pub Has : Sense → ℤ → Type 0
Has above z = pos 0 <ℤ z
Has not_below z = pos 0 ≤ℤ z
Has nothing z = z ≡ pos 0

pub record Fact (s : Sense) (p : Poly) (vs : List ℤ) : Type 0 where
  pub holds : Has s (value p vs)

abbrev pub sum_sense : Sense → Sense → Sense
sum_sense above t = above
sum_sense not_below above = above
sum_sense not_below t = not_below
sum_sense nothing t = t

abbrev pub product_sense : Sense → Sense → Sense
product_sense above t = t
product_sense not_below nothing = nothing
product_sense not_below t = not_below
product_sense nothing t = nothing

-- ---- facts
pub positive : {vs : List ℤ} (p : Poly) → pos 0 <ℤ value p vs → Fact above p vs
positive {vs} p h = record { holds = h }

pub natural : {vs : List ℤ} (p : Poly) → pos 0 ≤ℤ value p vs → Fact not_below p vs
natural {vs} p h = record { holds = h }

pub vanishing : {vs : List ℤ} (p : Poly) → value p vs ≡ pos 0 → Fact nothing p vs
vanishing {vs} p h = record { holds = h }

pub less : {vs : List ℤ} (p q : Poly) → value p vs <ℤ value q vs → Fact above (q ⊖ p) vs
less {vs} p q h = record { holds = omega (arith, linear, h) }

pub at_most : {vs : List ℤ} (p q : Poly) → value p vs ≤ℤ value q vs → Fact not_below (q ⊖ p) vs
at_most {vs} p q h = record { holds = omega (arith, linear, h) }

pub same : {vs : List ℤ} (p q : Poly) → value p vs ≡ value q vs → Fact nothing (p ⊖ q) vs
same {vs} p q h = record { holds = omega (arith, linear, h) }

pub square : {vs : List ℤ} (p : Poly) → Fact not_below (p ⊗ p) vs
square {vs} p = record { holds = square_nonneg (value p vs) }

abbrev pub literal_sense : ℕ → Sense
literal_sense zero = nothing
literal_sense (suc n) = above

pub literal : {vs : List ℤ} (n : ℕ) → Fact (literal_sense n) (num (pos n)) vs
literal {vs} zero = record { holds = refl }
literal {vs} (suc n) = record { holds = omega (arith, linear) }

-- ---- their combinations
has_sum : (s t : Sense) (x y : ℤ) → Has s x → Has t y → Has (sum_sense s t) (x +ℤ y)
has_sum above above x y h k = omega (arith, linear, h, k)
has_sum above not_below x y h k = omega (arith, linear, h, k)
has_sum above nothing x y h k = omega (arith, linear, h, k)
has_sum not_below above x y h k = omega (arith, linear, h, k)
has_sum not_below not_below x y h k = omega (arith, linear, h, k)
has_sum not_below nothing x y h k = omega (arith, linear, h, k)
has_sum nothing above x y h k = omega (arith, linear, h, k)
has_sum nothing not_below x y h k = omega (arith, linear, h, k)
has_sum nothing nothing x y h k = omega (arith, linear, h, k)

zero_left : (x y : ℤ) → x ≡ pos 0 → x *ℤ y ≡ pos 0
zero_left x y h = ap (λ z. z *ℤ y) h ∙ zero-*ℤ y

zero_right : (x y : ℤ) → y ≡ pos 0 → x *ℤ y ≡ pos 0
zero_right x y h = ap (λ z. x *ℤ z) h ∙ *ℤ-zero x

has_product : (s t : Sense) (x y : ℤ) → Has s x → Has t y → Has (product_sense s t) (x *ℤ y)
has_product above above x y h k = pos-*-pos h k
has_product above not_below x y h k = nonneg-*-nonneg (<ℤ_weaken h) k
has_product above nothing x y h k = zero_right x y k
has_product not_below above x y h k = nonneg-*-nonneg h (<ℤ_weaken k)
has_product not_below not_below x y h k = nonneg-*-nonneg h k
has_product not_below nothing x y h k = zero_right x y k
has_product nothing above x y h k = zero_left x y h
has_product nothing not_below x y h k = zero_left x y h
has_product nothing nothing x y h k = zero_left x y h

pub ◌⊞◌ : {s t : Sense} {p q : Poly} {vs : List ℤ} → Fact s p vs → Fact t q vs → Fact (sum_sense s t) (p ⊕ q) vs
◌⊞◌ {s} {t} {p} {q} {vs} f g = record { holds = has_sum s t (value p vs) (value q vs) f.holds g.holds }

pub ◌⊠◌ : {s t : Sense} {p q : Poly} {vs : List ℤ} → Fact s p vs → Fact t q vs → Fact (product_sense s t) (p ⊗ q) vs
◌⊠◌ {s} {t} {p} {q} {vs} f g = record { holds = has_product s t (value p vs) (value q vs) f.holds g.holds }

-- an equation times any polynomial
pub scaled : {p : Poly} {vs : List ℤ} (q : Poly) → Fact nothing p vs → Fact nothing (q ⊗ p) vs
scaled {p} {vs} q f = record { holds = zero_right (value q vs) (value p vs) f.holds }

-- a positive whole number is at least 1
pub whole : {p : Poly} {vs : List ℤ} → Fact above p vs → Fact not_below (p ⊖ num (pos 1)) vs
whole {p} {vs} f = record { holds = let h : pos 0 <ℤ value p vs = f.holds in omega (arith, linear, h) }

-- ---- goals whose difference is a combination of facts
difference : (p q r : Poly) (vs : List ℤ) → is_none (normal (p ⊖ q ⊖ r)) ≡ true → value p vs ≡ value q vs +ℤ value r vs
difference p q r vs e = omega (arith, linear, is_zero (p ⊖ q ⊖ r) vs e)

pub less_from : (p q : Poly) (vs : List ℤ) {r : Poly} → Fact above r vs → is_none (normal (q ⊖ p ⊖ r)) ≡ true → value p vs <ℤ value q vs
less_from p q vs {r} f e = let h : pos 0 <ℤ value r vs = f.holds in omega (arith, linear, difference q p r vs e, h)

pub at_most_from : (p q : Poly) (vs : List ℤ) {r : Poly} → Fact not_below r vs → is_none (normal (q ⊖ p ⊖ r)) ≡ true
    → value p vs ≤ℤ value q vs
at_most_from p q vs {r} f e = let h : pos 0 ≤ℤ value r vs = f.holds in omega (arith, linear, difference q p r vs e, h)

pub same_from : (p q : Poly) (vs : List ℤ) {r : Poly} → Fact nothing r vs → is_none (normal (p ⊖ q ⊖ r)) ≡ true → value p vs ≡ value q vs
same_from p q vs {r} f e = let h : value r vs ≡ pos 0 = f.holds in omega (arith, linear, difference p q r vs e, h)

-- ---- goals whose denial, with facts, comes to 0 < 0
pub impossible_by {ℓ} : {P : Type ℓ} (vs : List ℤ) {r : Poly} → Fact above r vs → is_none (normal r) ≡ true → P
impossible_by {P = P} vs {r} f e = absurd none_such
  where
    none_such : ⊥
    none_such = let h : pos 0 <ℤ value r vs = f.holds in omega (arith, linear, is_zero r vs e, h)

pub less_by : (p q : Poly) (vs : List ℤ) {r : Poly} → (Fact not_below (p ⊖ q) vs → Fact above r vs) → is_none (normal r) ≡ true
    → value p vs <ℤ value q vs
less_by p q vs f e = by_lt_z (value p vs) (value q vs) (λ h. h) (λ h. impossible_by vs (f (at_most q p h)) e)

pub at_most_by : (p q : Poly) (vs : List ℤ) {r : Poly} → (Fact above (p ⊖ q) vs → Fact above r vs) → is_none (normal r) ≡ true
    → value p vs ≤ℤ value q vs
at_most_by p q vs f e = by_lt_z (value q vs) (value p vs) (λ h. impossible_by vs (f (less q p h)) e) (λ h. h)
