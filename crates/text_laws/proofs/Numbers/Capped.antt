-- Numbers that are cut off at a cap while their digits are read.
use Rattle.std.proofs.Common.{◌≡◌, ℕ, zero, suc, ◌+◌, ◌-◌, ◌*◌, ◌^◌, ◌<◌, ◌≤◌, min, Bool, List, [], ◌∷◌, inl, inr, IsTrue, length, drop}
use Rattle.std.proofs.Common.{get_or, refl, sym, ◌∙◌, ap, arith}
use Rattle.std.proofs.lemmas.Bool.{cases_lt, and_parts}
use Rattle.std.proofs.lemmas.Bool.Decides.{nat_tests}
use Rattle.std.proofs.lemmas.List.{drop_more}
use Rattle.std.proofs.Math.Nat.{zero-mul, mul_assoc, pow-succ', le-mul_of_pos_right}
use Rattle.std.specs.List.{list_all}
use Rattle.text_laws.specs.Numbers.{read_on, capped}

-- More digits make no number smaller.
pub read_on-grows : (n : ℕ) (text : List ℕ) → n ≤ read_on n text
read_on-grows n [] = omega arith
read_on-grows n (b ∷ text) = omega (arith, read_on-grows (n * 10 + (b - 48)) text)

pub capped_below : (cap n : ℕ) → n < cap → capped cap n ≡ n
capped_below cap n h = grind (arith, nat_tests)

pub capped_above : (cap n : ℕ) → cap ≤ n → capped cap n ≡ cap
capped_above cap n h = grind (arith, nat_tests)

-- Digits read after a cut make the same number up to the cap.
pub capped-read_on-min : (cap n : ℕ) (text : List ℕ) → capped cap (read_on (min n cap) text) ≡ capped cap (read_on n text)
capped-read_on-min cap n text = elim (cases_lt n cap) [
  | inl below ↦ (let e : min n cap ≡ n = omega arith in rw e refl)
  | inr above ↦ (let e : min n cap ≡ cap = omega arith in rw e (
      capped_above cap (read_on cap text) (read_on-grows cap text)
      ∙ sym (capped_above cap (read_on n text) (omega (arith, read_on-grows n text)))))
]

-- The step of a loop that reads digits under a cap.
pub capped-read_on-more : (cap n : ℕ) (text : List ℕ) (i : ℕ) → i < length text →
    capped cap (read_on (min (n * 10 + (get_or text i 0 - 48)) cap) (drop (i + 1) text)) ≡ capped cap (read_on n (drop i text))
capped-read_on-more cap n text i within =
    rw (drop_more text i 0 within) (capped-read_on-min cap (n * 10 + (get_or text i 0 - 48)) (drop (i + 1) text))

-- What holds of all that is left holds of what is left one step on.
pub list_all-more : (p : ℕ → Bool) (text : List ℕ) (i : ℕ) → i < length text → IsTrue (list_all p (drop i text)) →
    IsTrue (list_all p (drop (i + 1) text))
list_all-more p text i within h = (and_parts (p (get_or text i 0)) _ (rw (drop_more text i 0 within) at h)).1

pub ten_pos : (k : ℕ) → 0 < 10 ^ k
ten_pos zero = omega arith
ten_pos (suc k) = rw (pow-succ' 10 k) (omega (arith, ten_pos k))

-- Zeros at its end make no number smaller.
pub zeros-grow : (n k : ℕ) → n ≤ n * 10 ^ k
zeros-grow n k = le-mul_of_pos_right n (ten_pos k)

one_zero : (n k : ℕ) → (n * 10) * 10 ^ k ≡ n * 10 ^ suc k
one_zero n k = mul_assoc n 10 (10 ^ k) ∙ ap (λ m. n * m) (sym (pow-succ' 10 k))

-- The step of a loop that puts zeros at the end under a cap.
pub capped-zeros-more : (cap n k : ℕ) → capped cap (min (n * 10) cap * 10 ^ k) ≡ capped cap (n * 10 ^ suc k)
capped-zeros-more cap n k = elim (cases_lt (n * 10) cap) [
  | inl below ↦ (let e : min (n * 10) cap ≡ n * 10 = omega arith in rw e (ap (capped cap) (one_zero n k)))
  | inr above ↦ (let e : min (n * 10) cap ≡ cap = omega arith in rw e (
      capped_above cap (cap * 10 ^ k) (zeros-grow cap k)
      ∙ sym (capped_above cap (n * 10 ^ suc k) (omega (arith, one_zero n k, zeros-grow (n * 10) k)))))
]

-- A number that zeros at its end don't change, up to the cap.
pub settled_zero : (cap n k : ℕ) → n ≡ 0 → 0 < cap → n ≡ capped cap (n * 10 ^ k)
settled_zero cap n k e some = rw (e, zero-mul (10 ^ k)) (sym (capped_below cap 0 some))

pub settled_cap : (cap n k : ℕ) → n ≡ cap → n ≡ capped cap (n * 10 ^ k)
settled_cap cap n k e = rw e (sym (capped_above cap (cap * 10 ^ k) (zeros-grow cap k)))
