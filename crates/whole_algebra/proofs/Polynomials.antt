-- Identities of polynomials over ℤ, by computation: write both sides as polynomials in `var 0`, `var 1`, .., give the list of
-- their values, and `refl`.
--
--     square : (a b : ℤ) → (a +ℤ b) *ℤ (a +ℤ b) ≡ a *ℤ a +ℤ pos 2 *ℤ a *ℤ b +ℤ b *ℤ b
--     square a b =
--         let x = var 0 in
--         let y = var 1 in
--         identity ((x ⊕ y) ⊗ (x ⊕ y)) (x ⊗ x ⊕ num (pos 2) ⊗ x ⊗ y ⊕ y ⊗ y) (a ∷ b ∷ []) refl
--
-- A definition such as a determinant gets a twin over `Poly` with the same text, and conversion sees that the two agree where
-- the definition unfolds:
--
--     cross : ℤ → ℤ → ℤ → ℤ → ℤ
--     cross a b c d = a *ℤ d -ℤ b *ℤ c
--
--     abbrev cross_p : Poly → Poly → Poly → Poly → Poly
--     cross_p a b c d = a ⊗ d ⊖ b ⊗ c
--
--     swapped : (a b c d : ℤ) → cross c d a b ≡ neg_ℤ (cross a b c d)
--     unfolding cross
--     swapped a b c d =
--         identity (cross_p (var 2) (var 3) (var 0) (var 1)) (minus (cross_p (var 0) (var 1) (var 2) (var 3))) (a ∷ b ∷ c ∷ d ∷ []) refl
--
-- Evaluate an identity at random numbers first: a wrong one says only `false ≡ true`.
use Rattle.std.proofs.Common.{ℕ, zero, suc, ◌≡◌, Bool, true, false, List, [], ◌∷◌, ℤ, pos, negsuc, ◌+ℤ◌, ◌-ℤ◌, ◌*ℤ◌, neg_ℤ, ap, refl, sym}
use Rattle.std.proofs.Common.{◌∙◌, arith}
use Rattle.std.proofs.lemmas.Bool.{false≢true}
use lib.IntN.{*ℤ_comm, zero-*ℤ, *ℤ-zero, +ℤ_idl, +ℤ_idr}
use Rattle.whole_algebra.proofs.Laws.{linear, one-*ℤ, *ℤ_assoc, *ℤ-+ℤ, +ℤ-*ℤ, minus_one-*ℤ, *ℤ_left_comm}

infixl 6 ◌⊕◌ ◌⊖◌
infixl 7 ◌⊗◌
pub data Poly : Type 0 where
  var : ℕ → Poly
  num : ℤ → Poly
  ◌⊕◌ : Poly → Poly → Poly
  ◌⊖◌ : Poly → Poly → Poly
  ◌⊗◌ : Poly → Poly → Poly
  minus : Poly → Poly

abbrev pub head : List ℤ → ℤ
head [] = pos 0
head (x ∷ vs) = x

abbrev pub tail : List ℤ → List ℤ
tail [] = []
tail (x ∷ vs) = vs

abbrev pub at : ℕ → List ℤ → ℤ
at zero vs = head vs
at (suc n) vs = at n (tail vs)

abbrev pub value : Poly → List ℤ → ℤ
value (var n) vs = at n vs
value (num c) vs = c
value (p ⊕ q) vs = value p vs +ℤ value q vs
value (p ⊖ q) vs = value p vs -ℤ value q vs
value (p ⊗ q) vs = value p vs *ℤ value q vs
value (minus p) vs = neg_ℤ (value p vs)

-- ---- the normal form: 0, a number other than 0, or low + x·high, where x is the first value, low speaks of the values behind
-- it and high of all
pub data Normal : Type 0 where
  none : Normal
  leaf : ℤ → Normal
  node : Normal → Normal → Normal

abbrev pub worth : Normal → List ℤ → ℤ
worth none vs = pos 0
worth (leaf c) vs = c
worth (node low high) vs = worth low (tail vs) +ℤ head vs *ℤ worth high vs

abbrev pub is_none : Normal → Bool
is_none none = true
is_none (leaf c) = false
is_none (node low high) = false

-- the constructors that drop zeros
abbrev pub number : ℤ → Normal
number (pos zero) = none
number (pos (suc n)) = leaf (pos (suc n))
number (negsuc n) = leaf (negsuc n)

abbrev pub branch : Normal → Normal → Normal
branch none none = none
branch (leaf c) none = leaf c
branch (node low high) none = node (node low high) none
branch low (leaf c) = node low (leaf c)
branch low (node l h) = node low (node l h)

abbrev pub plus_number : ℤ → Normal → Normal
plus_number a none = number a
plus_number a (leaf b) = number (a +ℤ b)
plus_number a (node low high) = branch (plus_number a low) high

abbrev pub sum : Normal → Normal → Normal
sum none q = q
sum (leaf a) q = plus_number a q
sum (node low high) none = node low high
sum (node low high) (leaf b) = branch (plus_number b low) high
sum (node low high) (node low' high') = branch (sum low low') (sum high high')

abbrev pub times_number : ℤ → Normal → Normal
times_number a none = none
times_number a (leaf b) = number (a *ℤ b)
times_number a (node low high) = branch (times_number a low) (times_number a high)

-- q times what speaks of the values behind the first: `times` says how to multiply by that
abbrev pub times_low : (Normal → Normal) → Normal → Normal
times_low times none = none
times_low times (leaf b) = branch (times (leaf b)) none
times_low times (node low high) = branch (times low) (times_low times high)

abbrev pub product : Normal → Normal → Normal
product none q = none
product (leaf a) q = times_number a q
product (node low high) q = sum (times_low (product low) q) (branch none (product high q))

abbrev pub variable : ℕ → Normal
variable zero = node none (leaf (pos 1))
variable (suc n) = node (variable n) none

abbrev pub normal : Poly → Normal
normal (var n) = variable n
normal (num c) = number c
normal (p ⊕ q) = sum (normal p) (normal q)
normal (p ⊖ q) = sum (normal p) (times_number (negsuc 0) (normal q))
normal (p ⊗ q) = product (normal p) (normal q)
normal (minus p) = times_number (negsuc 0) (normal p)

-- ---- each keeps the value
worth-number : (c : ℤ) (vs : List ℤ) → worth (number c) vs ≡ c
worth-number (pos zero) vs = refl
worth-number (pos (suc n)) vs = refl
worth-number (negsuc n) vs = refl

plus_zero : (a x : ℤ) → a ≡ a +ℤ x *ℤ pos 0
plus_zero a x = omega (arith, linear, *ℤ-zero x)

worth-branch : (low high : Normal) (vs : List ℤ) → worth (branch low high) vs ≡ worth low (tail vs) +ℤ head vs *ℤ worth high vs
worth-branch none none vs = plus_zero (pos 0) (head vs)
worth-branch (leaf c) none vs = plus_zero c (head vs)
worth-branch (node low high) none vs = refl
worth-branch none (leaf c) vs = refl
worth-branch (leaf a) (leaf c) vs = refl
worth-branch (node low high) (leaf c) vs = refl
worth-branch none (node l h) vs = refl
worth-branch (leaf c) (node l h) vs = refl
worth-branch (node low high) (node l h) vs = refl

worth-plus_number : (a : ℤ) (q : Normal) (vs : List ℤ) → worth (plus_number a q) vs ≡ a +ℤ worth q vs
worth-plus_number a none vs = worth-number a vs ∙ sym (+ℤ_idr a)
worth-plus_number a (leaf b) vs = worth-number (a +ℤ b) vs
worth-plus_number a (node low high) vs = omega (arith, linear, worth-branch (plus_number a low) high vs, worth-plus_number a low (tail vs))

worth-sum : (p q : Normal) (vs : List ℤ) → worth (sum p q) vs ≡ worth p vs +ℤ worth q vs
worth-sum none q vs = sym (+ℤ_idl (worth q vs))
worth-sum (leaf a) q vs = worth-plus_number a q vs
worth-sum (node low high) none vs = sym (+ℤ_idr (worth (node low high) vs))
worth-sum (node low high) (leaf b) vs = omega (arith, linear, worth-branch (plus_number b low) high vs, worth-plus_number b low (tail vs))
worth-sum (node low high) (node low' high') vs =
    let e : head vs *ℤ worth (sum high high') vs ≡ head vs *ℤ worth high vs +ℤ head vs *ℤ worth high' vs =
    ap (λ z. head vs *ℤ z) (worth-sum high high' vs) ∙ *ℤ-+ℤ (head vs) (worth high vs) (worth high' vs) in
    omega (arith, linear, worth-branch (sum low low') (sum high high') vs, worth-sum low low' (tail vs), e)

worth-times_number : (a : ℤ) (q : Normal) (vs : List ℤ) → worth (times_number a q) vs ≡ a *ℤ worth q vs
worth-times_number a none vs = sym (*ℤ-zero a)
worth-times_number a (leaf b) vs = worth-number (a *ℤ b) vs
worth-times_number a (node low high) vs =
    let e : head vs *ℤ worth (times_number a high) vs ≡ a *ℤ (head vs *ℤ worth high vs) =
    ap (λ z. head vs *ℤ z) (worth-times_number a high vs) ∙ *ℤ_left_comm (head vs) a (worth high vs) in
    omega (
      arith,
      linear,
      worth-branch (times_number a low) (times_number a high) vs,
      worth-times_number a low (tail vs),
      e,
      *ℤ-+ℤ a
          (worth low (tail vs)) (head vs *ℤ worth high vs),
    )

worth-times_low : (times : Normal → Normal) (p : Normal) → ((q : Normal) (vs : List ℤ) → worth (times q) vs ≡ worth p vs *ℤ worth q vs)
    → (q : Normal) (vs : List ℤ) → worth (times_low times q) vs ≡ worth p (tail vs) *ℤ worth q vs
worth-times_low times p h none vs = sym (*ℤ-zero (worth p (tail vs)))
worth-times_low times p h (leaf b) vs = omega
    (arith, linear, worth-branch (times (leaf b)) none vs, h (leaf b) (tail vs), *ℤ-zero (head vs))
worth-times_low times p h (node low high) vs =
    let w = worth p (tail vs) in
    let e : head vs *ℤ worth (times_low times high) vs ≡ w *ℤ (head vs *ℤ worth high vs) =
    ap (λ z. head vs *ℤ z) (worth-times_low times p h high vs) ∙ *ℤ_left_comm (head vs) w (worth high vs) in
    omega (
      arith,
      linear,
      worth-branch (times low) (times_low times high) vs,
      h low (tail vs),
      e,
      *ℤ-+ℤ w (worth low (tail vs))
          (head vs *ℤ worth high vs),
    )

worth-product : (p q : Normal) (vs : List ℤ) → worth (product p q) vs ≡ worth p vs *ℤ worth q vs
worth-product none q vs = sym (zero-*ℤ (worth q vs))
worth-product (leaf a) q vs = worth-times_number a q vs
worth-product (node low high) q vs =
    let e : head vs *ℤ worth (product high q) vs ≡ (head vs *ℤ worth high vs) *ℤ worth q vs =
    ap (λ z. head vs *ℤ z) (worth-product high q vs) ∙ sym (*ℤ_assoc (head vs) (worth high vs) (worth q vs)) in
    omega (
      arith,
      linear,
      worth-sum (times_low (product low) q) (branch none (product high q)) vs,
      worth-branch none
          (product high q) vs,
      worth-times_low (product low) low (worth-product low) q vs,
      e,
      +ℤ-*ℤ (worth low (tail vs))
          (head vs *ℤ worth high vs) (worth q vs),
    )

worth-variable : (n : ℕ) (vs : List ℤ) → worth (variable n) vs ≡ at n vs
worth-variable zero vs = +ℤ_idl (head vs *ℤ pos 1) ∙ one (head vs)
  where
    one : (x : ℤ) → x *ℤ pos 1 ≡ x
    one x = *ℤ_comm x (pos 1) ∙ one-*ℤ x
worth-variable (suc n) vs = sym (plus_zero (worth (variable n) (tail vs)) (head vs)) ∙ worth-variable n (tail vs)

worth-minus : (p : Normal) (vs : List ℤ) → worth (times_number (negsuc 0) p) vs ≡ neg_ℤ (worth p vs)
worth-minus p vs = worth-times_number (negsuc 0) p vs ∙ minus_one-*ℤ (worth p vs)

pub worth-normal : (p : Poly) (vs : List ℤ) → worth (normal p) vs ≡ value p vs
worth-normal (var n) vs = worth-variable n vs
worth-normal (num c) vs = worth-number c vs
worth-normal (p ⊕ q) vs = worth-sum (normal p) (normal q) vs ∙ (λ i. worth-normal p vs i +ℤ worth-normal q vs i)
worth-normal (p ⊖ q) vs = worth-sum (normal p) (times_number (negsuc 0) (normal q)) vs
    ∙ (λ i. worth-normal p vs i +ℤ worth-minus (normal q) vs i) ∙ ap (λ z. value p vs +ℤ neg_ℤ z) (worth-normal q vs)
worth-normal (p ⊗ q) vs = worth-product (normal p) (normal q) vs ∙ (λ i. worth-normal p vs i *ℤ worth-normal q vs i)
worth-normal (minus p) vs = worth-minus (normal p) vs ∙ ap neg_ℤ (worth-normal p vs)

worth-is_none : (p : Normal) (vs : List ℤ) → is_none p ≡ true → worth p vs ≡ pos 0
worth-is_none none vs e = refl
worth-is_none (leaf c) vs e = absurd (false≢true e)
worth-is_none (node low high) vs e = absurd (false≢true e)

-- ---- for use: the test computes, so its proof is `refl`
pub is_zero : (p : Poly) (vs : List ℤ) → is_none (normal p) ≡ true → value p vs ≡ pos 0
is_zero p vs e = sym (worth-normal p vs) ∙ worth-is_none (normal p) vs e

pub identity : (p q : Poly) (vs : List ℤ) → is_none (normal (p ⊖ q)) ≡ true → value p vs ≡ value q vs
identity p q vs e = omega (arith, linear, is_zero (p ⊖ q) vs e)
