-- An exponent that is far enough moves the point past all digits.
use Rattle.std.proofs.Common.{◌≡◌, ℕ, zero, suc, ◌+◌, ◌-◌, ◌*◌, ◌^◌, ◌<◌, ◌≤◌, Bool, true, false, cond, List, inl, inr, Some, None, length}
use Rattle.std.proofs.Common.{take, drop, refl, sym, ◌∙◌, ap, arith, Option}
use Rattle.std.proofs.lemmas.Bool.{cases_lt}
use Rattle.std.proofs.lemmas.Nat.{pow-add, mul-le}
use Rattle.std.proofs.Math.Nat.{zero-mul, mul_left_comm}
use Rattle.std.specs.List.{list_all}
use Rattle.text_laws.specs.Numbers.{from_digits, capped, is_zero, kept_value, up_of, down_of}
use Rattle.text_laws.proofs.Numbers.Capped.{ten_pos, capped_below, capped_above}

-- ---- far exponents

far_by : (n p : ℕ) → 0 < n → 0 < p → 10000000 ≤ n * (10000000 * p)
far_by n p some pos_p = omega (arith, mul-le (1) 1 n p some pos_p, mul_left_comm n 10000000 p)

far : (n j : ℕ) → 0 < n → 7 ≤ j → 10000000 ≤ n * 10 ^ j
far n j some h =
    let e : j ≡ 7 + (j - 7) = omega arith in
    rw (e, pow-add 10 7 (j - 7)) (far_by n (10 ^ (j - 7)) some (ten_pos (j - 7)))

far_capped : (cap n j : ℕ) → cap ≤ 10000000 → 0 < n → 7 ≤ j → capped cap (n * 10 ^ j) ≡ cap
far_capped cap n j small some h = capped_above cap _ (omega (arith, far n j some h))

far_zeros : (cap n j k : ℕ) → cap ≤ 10000000 → 7 ≤ j → 7 ≤ k → capped cap (n * 10 ^ j) ≡ capped cap (n * 10 ^ k)
far_zeros cap zero j k small p q = rw (zero-mul (10 ^ j), zero-mul (10 ^ k)) refl
far_zeros cap (suc n) j k small p q = far_capped cap (suc n) j small (omega arith) p ∙ sym (far_capped cap (suc n) k small (omega arith) q)

-- The value of digits under an exponent of this sign and size and a scale, with so many digits after the point.
abbrev pub shifted : ℕ → Bool → List ℕ → ℕ → ℕ → ℕ → Option ℕ
shifted cap minus digits size places scale =
    kept_value cap digits (length digits - (down_of minus size places - up_of minus size scale))
    (up_of minus size scale - down_of minus size places)

kept_farther : (cap : ℕ) (minus : Bool) (digits : List ℕ) (size places scale : ℕ) → cap ≤ 10000000 → length digits ≤ 500 →
    places ≤ 500 → scale ≤ 100 → 1000 ≤ size →
    shifted cap minus digits (capped 1000 size) places scale ≡ shifted cap minus digits size places scale
kept_farther cap false digits size places scale small h f s above =
    let e : capped 1000 size ≡ 1000 = capped_above 1000 size above in
    let a : places - (1000 + scale) ≡ 0 = omega arith in
    let b : places - (size + scale) ≡ 0 = omega arith in
    rw (e, a, b) (ap (λ n. cond (list_all is_zero (drop (length digits - 0) digits)) (Some n) None)
    (far_zeros cap (from_digits (take (length digits - 0) digits)) _ _ small (omega arith) (omega arith)))
kept_farther cap true digits size places scale small h f s above =
    let e : capped 1000 size ≡ 1000 = capped_above 1000 size above in
    let a : length digits - ((1000 + places) - scale) ≡ 0 = omega arith in
    let b : length digits - ((size + places) - scale) ≡ 0 = omega arith in
    let x : scale - (1000 + places) ≡ 0 = omega arith in
    let y : scale - (size + places) ≡ 0 = omega arith in
    rw (e, a, b, x, y) refl

-- The shift that a cut exponent gives says the same.
pub kept_far : (cap : ℕ) (minus : Bool) (digits : List ℕ) (size places scale : ℕ) → cap ≤ 10000000 → length digits ≤ 500 →
    places ≤ 500 → scale ≤ 100 → shifted cap minus digits (capped 1000 size) places scale ≡ shifted cap minus digits size places scale
kept_far cap minus digits size places scale small h f s = elim (cases_lt size 1000) [
  | inl below ↦ rw (capped_below 1000 size below) refl
  | inr above ↦ kept_farther cap minus digits size places scale small h f s above
]
