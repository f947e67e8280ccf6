-- What is said of a number, found from the front of its digits.
use Rattle.std.proofs.Common.{◌≡◌, ℕ, ◌+◌, ◌-◌, ◌*◌, ◌^◌, ◌≤◌, Bool, true, false, cond, nat_lt, List, ◌++◌, inl, inr, Some, None, length}
use Rattle.std.proofs.Common.{take, drop, refl, sym, ◌∙◌, ap, arith, length-append}
use Rattle.std.proofs.lemmas.Bool.{cases_lt}
use Rattle.std.proofs.lemmas.Bool.Decides.{nat_tests}
use Rattle.std.specs.List.{list_all}
use Rattle.std.specs.Char.{is_ascii_digit}
use Rattle.text_laws.specs.Numbers.{from_digits, capped, is_zero, kept_value, up_of, down_of, unsigned, is_minus, mantissa, after_mantissa}
use Rattle.text_laws.specs.Numbers.{whole_part, fraction_part, is_formed, exponent_size, is_exponent_minus}
use Rattle.plane_exact.specs.Limits.{limit}
use Rattle.wkt_text.specs.declared.number.Numeral.TheVariants.{Fraction}
use Rattle.wkt_text.specs.Limits.{most_bytes}
use Rattle.wkt_text.specs.Numbers.{judged, value_of, numeral_of}
use Rattle.text_laws.proofs.Numbers.Capped.{capped_below, capped_above}
use Rattle.text_laws.proofs.Numbers.Digits.{is_kept}
use Rattle.text_laws.proofs.Numbers.Shifts.{kept_far}

-- All sizes from here on are too wide.
abbrev cap : ℕ
cap = limit + 1

above_limit : (n : ℕ) → cap ≤ n → nat_lt limit n ≡ true
above_limit n h = grind (arith, nat_tests)

judged-capped : (minus : Bool) (n : ℕ) → judged minus (Some (capped cap n)) ≡ judged minus (Some n)
judged-capped minus n = elim (cases_lt n cap) [
  | inl below ↦ rw (capped_below cap n below) refl
  | inr above ↦ rw (capped_above cap n above, above_limit n above) refl
]

judged_by_test : (minus : Bool) (whole : Bool) (n : ℕ) →
    judged minus (cond whole (Some (capped cap n)) None) ≡ cond whole (judged minus (Some n)) Fraction
judged_by_test minus true n = judged-capped minus n
judged_by_test minus false n = refl

-- What is said of a value, by the digits kept.
pub judged_kept : (minus : Bool) (digits : List ℕ) (up down : ℕ) → list_all is_ascii_digit digits ≡ true →
    judged minus (kept_value cap digits (length digits - (down - up)) (up - down))
    ≡ value_of minus (record { digits = from_digits digits; up = up; down = down })
judged_kept minus digits up down h =
    let k = is_kept digits up down h in
    let kept : ℕ = length digits - (down - up) in
    judged_by_test minus (list_all is_zero (drop kept digits)) (from_digits (take kept digits) * 10 ^ (up - down))
    ∙ rw (k.whole, k.size) refl

module _ (scale : ℕ) (text : List ℕ) (few : length text ≤ most_bytes) (near : scale ≤ 100) where
  tested : nat_lt most_bytes (length text) ≡ false
  tested = grind (arith, nat_tests)

  pub formed : (m x w f : List ℕ) → is_formed text ≡ true → list_all is_ascii_digit (w ++ f) ≡ true → length w + length f ≤ most_bytes →
      m ≡ mantissa (unsigned text) → x ≡ after_mantissa (unsigned text) → w ≡ whole_part m → f ≡ fraction_part m →
      let up = up_of (is_exponent_minus x) (capped 1000 (exponent_size x)) scale in
      let down = down_of (is_exponent_minus x) (capped 1000 (exponent_size x)) (length f) in
      judged (is_minus text) (kept_value cap (w ++ f) (length w + length f - (down - up)) (up - down))
      ≡ numeral_of scale text
  formed m x w f h digits short e₁ e₂ e₃ e₄ =
      let minus = is_exponent_minus x in
      let size = exponent_size x in
      let l : length w + length f ≡ length (w ++ f) = sym (length-append w f) in
      let up = up_of minus (capped 1000 size) scale in
      let down = down_of minus (capped 1000 size) (length f) in
      ap (λ n. judged (is_minus text) (kept_value cap (w ++ f) (n - (down - up)) (up - down))) l
      ∙ ap (judged (is_minus text)) (kept_far cap minus (w ++ f) size (length f) scale (omega arith) (omega arith) (omega arith) near)
      ∙ judged_kept (is_minus text) (w ++ f) (up_of minus size scale) (down_of minus size (length f)) digits
      ∙ rw (tested, h, e₃, e₄, e₁, e₂) refl
