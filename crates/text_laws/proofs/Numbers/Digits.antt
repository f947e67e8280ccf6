-- The value of a number, found from the front of its digits.
use Rattle.std.proofs.Common.{◌≡◌, ℕ, zero, suc, ◌+◌, ◌-◌, ◌*◌, ◌/◌, ◌%◌, ◌^◌, ◌<◌, ◌≤◌, Bool, true, false, ◌&&◌, ◌==◌, List, [], ◌∷◌, inl}
use Rattle.std.proofs.Common.{inr, length, take, drop, refl, sym, ◌∙◌, ap, arith, length-drop, take-append-drop}
use Rattle.std.proofs.lemmas.Bool.{cases_lt, false≢true, eqb-true, cases_Bool, and_parts}
use Rattle.std.proofs.lemmas.Bool.Decides.{nat_tests}
use Rattle.std.proofs.lemmas.List.{take_all, drop_all}
use Rattle.std.proofs.lemmas.List.Sums.{fold-append}
use Rattle.std.proofs.lemmas.Nat.{pow-add, div-mul-add, mod-mul-add}
use Rattle.std.proofs.Math.Nat.{zero-mul, mul_assoc, mul_comm, add-mul, pow-succ', mul-le-mul_right, mul-lt-mul_of_pos_right, mul-mod_left}
use Rattle.std.proofs.Math.Nat.{mul-div_left}
use Rattle.std.specs.List.{list_all}
use Rattle.std.specs.Char.{is_ascii_digit}
use Rattle.text_laws.specs.Numbers.{read_on, from_digits, is_zero}
use Rattle.text_laws.proofs.Numbers.Capped.{read_on-grows, ten_pos, zeros-grow}

-- ---- the value of all digits, from those in front

rest_false : (a b : Bool) → a ≡ true → (a && b) ≡ false → b ≡ false
rest_false true b h k = k
rest_false false b h k = absurd (false≢true h)

pub list_all-drop : (p : ℕ → Bool) (xs : List ℕ) (n : ℕ) → list_all p xs ≡ true → list_all p (drop n xs) ≡ true
list_all-drop p xs zero h = h
list_all-drop p [] (suc n) h = refl
list_all-drop p (x ∷ xs) (suc n) h = list_all-drop p xs n (and_parts (p x) _ h).1

-- The digits behind, read alone, add to those in front.
read_on-split : (n : ℕ) (ys : List ℕ) → read_on n ys ≡ n * 10 ^ length ys + read_on 0 ys
read_on-split n [] = omega arith
read_on-split n (y ∷ ys) =
    rw (
      read_on-split (n * 10 + (y - 48)) ys,
      read_on-split (0 * 10 + (y - 48)) ys,
      pow-succ' 10 (length ys),
      add-mul (n * 10) (y - 48) (10 ^ length ys),
      mul_assoc n 10 (10 ^ length ys),
      zero-mul 10,
    ) (omega arith)

digit_size : (b : ℕ) → is_ascii_digit b ≡ true → b - 48 ≤ 9
digit_size b h = grind (arith, nat_tests)

ten_times : (a p q : ℕ) → a + 1 ≤ 10 → q < p → a * p + q < 10 * p
ten_times a p q h k = omega (arith, mul-le-mul_right p h, add-mul a 1 p)

-- Digits read alone are less than a one with as many zeros.
read_on_below : (ys : List ℕ) → list_all is_ascii_digit ys ≡ true → read_on 0 ys < 10 ^ length ys
read_on_below [] h = omega arith
read_on_below (y ∷ ys) h =
    rw (read_on-split (0 * 10 + (y - 48)) ys, pow-succ' 10 (length ys))
    (ten_times (0 * 10 + (y - 48)) (10 ^ length ys) (read_on 0 ys)
    (omega (arith, digit_size y (and_parts (is_ascii_digit y) _ h).0))
    (read_on_below ys (and_parts (is_ascii_digit y) _ h).1))

-- Zeros read as 0, and other digits as more.
read_on_zeros : (ys : List ℕ) → list_all is_zero ys ≡ true → read_on 0 ys ≡ 0
read_on_zeros [] h = refl
read_on_zeros (y ∷ ys) h =
    let e : 0 * 10 + (y - 48) ≡ 0 = omega (arith, eqb-true y 48 (and_parts (is_zero y) _ h).0) in
    rw e (read_on_zeros ys (and_parts (is_zero y) _ h).1)

some_digit : (y : ℕ) → is_ascii_digit y ≡ true → is_zero y ≡ false → 0 < 0 * 10 + (y - 48)
some_digit y h k = grind (arith, nat_tests)

read_on_some : (ys : List ℕ) → list_all is_ascii_digit ys ≡ true → list_all is_zero ys ≡ false → 0 < read_on 0 ys
read_on_some [] h k = absurd (false≢true (sym k))
read_on_some (y ∷ ys) h k =
    elim (cases_Bool (is_zero y)) [
      | inl zero_y ↦ (
          let e : 0 * 10 + (y - 48) ≡ 0 = omega (arith, eqb-true y 48 zero_y) in
          rw e (read_on_some ys (and_parts (is_ascii_digit y) _ h).1 (rest_false (is_zero y) _ zero_y k)))
      | inr not_so ↦ omega (arith, some_digit y (and_parts (is_ascii_digit y) _ h).0 not_so, read_on-grows (0 * 10 + (y - 48)) ys)
    ]

-- The digits in front and behind make up the number.
joined : (digits : List ℕ) (kept : ℕ) →
    from_digits digits ≡ from_digits (take kept digits) * 10 ^ length (drop kept digits) + from_digits (drop kept digits)
joined digits kept =
    ap (read_on 0) (sym (take-append-drop kept digits))
    ∙ fold-append (λ m b. m * 10 + (b - 48)) 0 (take kept digits) (drop kept digits)
    ∙ read_on-split (from_digits (take kept digits)) (drop kept digits)

short_of : (digits : List ℕ) (k : ℕ) → length digits < k → from_digits digits < 10 ^ length digits → from_digits digits < 10 ^ k
short_of digits k h below =
    let e : k ≡ (k - length digits) + length digits = omega arith in
    rw (e, pow-add 10 (k - length digits) (length digits), mul_comm (10 ^ (k - length digits)) (10 ^ length digits))
    (omega (arith, below, zeros-grow (10 ^ length digits) (k - length digits)))

-- Whether the rest is zero is whether its multiple is.
zero_test : (n k : ℕ) (b : Bool) → (b ≡ true → n ≡ 0) → (b ≡ false → 0 < n) → (n * 10 ^ k == 0) ≡ b
zero_test n k true h g = rw (h refl, zero-mul (10 ^ k)) refl
zero_test n k false h g = grind (arith, nat_tests, g refl, zeros-grow n k)

-- A number with the digits in front and behind apart: the quotient and the remainder by a power of ten.
parts_of : (n q r k up down : ℕ) → n ≡ q * 10 ^ k + r → r < 10 ^ k → down ≡ k + up →
    ((n * 10 ^ up) % (10 ^ down) ≡ r * 10 ^ up) × ((n * 10 ^ up) / (10 ^ down) ≡ q)
parts_of n q r k up down e below d =
    let split : n * 10 ^ up ≡ q * 10 ^ down + r * 10 ^ up =
    rw (e, d, pow-add 10 k up, add-mul (q * 10 ^ k) r (10 ^ up), mul_assoc q (10 ^ k) (10 ^ up)) refl in
    let less : r * 10 ^ up < 10 ^ down = rw (d, pow-add 10 k up) (mul-lt-mul_of_pos_right below (ten_pos up)) in
    (rw split (mod-mul-add q (10 ^ down) (r * 10 ^ up) less), rw split (div-mul-add q (10 ^ down) (r * 10 ^ up) less))

-- Where more zeros are put than digits dropped, the value is whole.
more_zeros : (n k up down : ℕ) → up ≡ k + down →
    ((n * 10 ^ up) % (10 ^ down) ≡ 0) × ((n * 10 ^ up) / (10 ^ down) ≡ n * 10 ^ k)
more_zeros n k up down e =
    let split : n * 10 ^ up ≡ (n * 10 ^ k) * 10 ^ down = rw (e, pow-add 10 k down) (sym (mul_assoc n (10 ^ k) (10 ^ down))) in
    (rw split (mul-mod_left (n * 10 ^ k) (10 ^ down)), rw split (mul-div_left (n * 10 ^ k) (ten_pos down)))

-- A value by the digits kept: whether it is whole, and its size.
pub record IsKept (digits : List ℕ) (up down : ℕ) : Type 0 where
  pub whole : ((from_digits digits * 10 ^ up) % (10 ^ down) == 0) ≡ list_all is_zero (drop (length digits - (down - up)) digits)
  pub size : (from_digits digits * 10 ^ up) / (10 ^ down) ≡ from_digits (take (length digits - (down - up)) digits) * 10 ^ (up - down)

kept_more : (digits : List ℕ) (up down : ℕ) → down ≤ up → IsKept digits up down
kept_more digits up down more =
    let z : down - up ≡ 0 = omega arith in
    let all : length digits - 0 ≡ length digits = omega arith in
    let m = more_zeros (from_digits digits) (up - down) up down (omega arith) in
    record {
      whole = rw (z, all, m.0, drop_all (length digits) digits (omega arith)) refl;
      size = rw (z, all, m.1, take_all (length digits) digits (omega arith)) refl;
    }

kept_less_by : (digits : List ℕ) (k up down kept : ℕ) → list_all is_ascii_digit digits ≡ true → down ≡ k + up → kept ≡ length digits - k →
    ((from_digits digits * 10 ^ up) % (10 ^ down) ≡ from_digits (drop kept digits) * 10 ^ up)
    × ((from_digits digits * 10 ^ up) / (10 ^ down) ≡ from_digits (take kept digits))
kept_less_by digits k up down kept h e f = elim (cases_lt (length digits) k) [
  | inr within ↦ parts_of (from_digits digits) (from_digits (take kept digits)) (from_digits (drop kept digits)) k up down
      (joined digits kept ∙ ap (λ n. from_digits (take kept digits) * 10 ^ n + from_digits (drop kept digits))
      (length-drop kept digits ∙ omega arith))
      (let s : length (drop kept digits) ≡ k = length-drop kept digits ∙ omega arith in
      rw s at (read_on_below (drop kept digits) (list_all-drop is_ascii_digit digits kept h))) e
  | inl past ↦ (
      let z : kept ≡ 0 = omega arith in
      rw z (parts_of (from_digits digits) 0 (from_digits digits) k up down (omega (arith, zero-mul (10 ^ k)))
      (short_of digits k past (read_on_below digits h)) e))
]

kept_less : (digits : List ℕ) (up down : ℕ) → list_all is_ascii_digit digits ≡ true → up < down → IsKept digits up down
kept_less digits up down h less =
    let p = kept_less_by digits (down - up) up down (length digits - (down - up)) h (omega arith) refl in
    let z : up - down ≡ 0 = omega arith in
    let back : List ℕ = drop (length digits - (down - up)) digits in
    record {
      whole = rw p.0 (zero_test (from_digits back) up (list_all is_zero back) (read_on_zeros back)
          (read_on_some back (list_all-drop is_ascii_digit digits (length digits - (down - up)) h)));
      size = rw (p.1, z) (omega arith);
    }

pub is_kept : (digits : List ℕ) (up down : ℕ) → list_all is_ascii_digit digits ≡ true → IsKept digits up down
is_kept digits up down h = elim (cases_lt up down) [ inl less ↦ kept_less digits up down h less | inr more ↦ kept_more digits up down more ]
