-- Numbers: their form and their value.
use Rattle.std.specs.Prelude.{ℕ, suc, ◌+◌, ◌-◌, ◌*◌, ◌/◌, ◌%◌, ◌^◌, ℤ, pos, Bool, true, false, ◌&&◌, ◌||◌, ◌==◌, nat_lt, if◌then◌else◌}
use Rattle.std.specs.Prelude.{List, [], ◌∷◌, ◌++◌, length, drop, take, take_while, Option, Some, None}
use Rattle.std.specs.List.{prefix_len, list_all, fold}
use Rattle.std.specs.Char.{is_ascii_digit}
use lib.IntN.{neg_ℤ}
use Rattle.text_laws.specs.Bytes.{is_of_mantissa}

abbrev pub is_sign : ℕ → Bool
is_sign b = (b == 43) || (b == 45)

-- A text without a sign in front.
abbrev pub unsigned : List ℕ → List ℕ
unsigned [] = []
unsigned (b ∷ text) = if is_sign b then text else b ∷ text

-- Whether a text begins with a minus.
abbrev pub is_minus : List ℕ → Bool
is_minus [] = false
is_minus (b ∷ text) = b == 45

-- The mantissa of a text without sign, and what comes after it.
abbrev pub mantissa : List ℕ → List ℕ
mantissa text = take_while is_of_mantissa text

abbrev pub after_mantissa : List ℕ → List ℕ
after_mantissa text = drop (prefix_len is_of_mantissa text) text

-- The digits of a mantissa before its point, and what stands after the point.
abbrev pub whole_part : List ℕ → List ℕ
whole_part text = take_while is_ascii_digit text

abbrev pub fraction_part : List ℕ → List ℕ
fraction_part text = drop (suc (prefix_len is_ascii_digit text)) text

-- A mantissa: at most one point, and at least one digit.
abbrev pub is_mantissa : List ℕ → Bool
is_mantissa text =
    list_all is_ascii_digit (fraction_part text) && nat_lt 0 (length (whole_part text) + length (fraction_part text))

-- Digits alone, and at least one.
abbrev pub is_digits : List ℕ → Bool
is_digits text = list_all is_ascii_digit text && nat_lt 0 (length text)

-- What may follow the mantissa: nothing, or the letter e, a sign or none, and at least one digit.
abbrev pub is_exponent : List ℕ → Bool
is_exponent [] = true
is_exponent (b ∷ text) = ((b == 101) || (b == 69)) && is_digits (unsigned text)

-- Whether a text has the form of a number.
abbrev pub is_formed : List ℕ → Bool
is_formed text = is_mantissa (mantissa (unsigned text)) && is_exponent (after_mantissa (unsigned text))

-- The number whose digits are those of one and then those of a text.
abbrev pub read_on : ℕ → List ℕ → ℕ
read_on n text = fold (λ m b. m * 10 + (b - 48)) n text

-- The number that digits spell.
abbrev pub from_digits : List ℕ → ℕ
from_digits text = read_on 0 text

-- The size of an exponent, and whether it is negative.
abbrev pub exponent_size : List ℕ → ℕ
exponent_size [] = 0
exponent_size (b ∷ text) = from_digits (unsigned text)

abbrev pub is_exponent_minus : List ℕ → Bool
is_exponent_minus [] = false
is_exponent_minus (b ∷ text) = is_minus text

-- A value is a number of digits, times one power of ten, by another.
pub record Ratio : Type 0 where
  pub digits : ℕ
  pub up : ℕ
  pub down : ℕ

-- By how many powers of ten the digits are multiplied and divided: the exponent's size on its side, the scale, and one for
-- each digit after the point.
abbrev pub up_of : Bool → ℕ → ℕ → ℕ
up_of false size scale = size + scale
up_of true size scale = scale

abbrev pub down_of : Bool → ℕ → ℕ → ℕ
down_of false size places = places
down_of true size places = size + places

-- The digits of a mantissa without its point.
abbrev pub digits_of : List ℕ → List ℕ
digits_of text = whole_part text ++ fraction_part text

abbrev pub ratio_by : Bool → ℕ → List ℕ → ℕ → Ratio
ratio_by minus size text scale = record {
  digits = from_digits (digits_of text);
  up = up_of minus size scale;
  down = down_of minus size (length (fraction_part text));
}

-- The size of a formed number's value, times ten to the power of the scale.
abbrev pub ratio_of : List ℕ → ℕ → Ratio
ratio_of text scale =
    let rest = after_mantissa (unsigned text) in
    ratio_by (is_exponent_minus rest) (exponent_size rest) (mantissa (unsigned text)) scale

-- Whether a value is whole, and its size then.
abbrev pub is_whole : Ratio → Bool
is_whole r = (r.digits * 10 ^ r.up) % (10 ^ r.down) == 0

abbrev pub size_of : Ratio → ℕ
size_of r = (r.digits * 10 ^ r.up) / (10 ^ r.down)

-- A whole number by its sign and size.
abbrev pub signed : Bool → ℕ → ℤ
signed minus size = if minus then neg_ℤ (pos size) else pos size

-- How the reader finds a value: it keeps the front of the digits, and puts zeros after them.

-- The number, or the cap where it is above it.
abbrev pub capped : ℕ → ℕ → ℕ
capped cap n = if nat_lt n cap then n else cap

-- Whether the digits from a place on are zeros.
abbrev pub is_zero : ℕ → Bool
is_zero b = b == 48

-- The value of so many digits in front with zeros after them, up to the cap, where the other digits are zeros.
abbrev pub kept_value : ℕ → List ℕ → ℕ → ℕ → Option ℕ
kept_value cap digits kept zeros =
    if list_all is_zero (drop kept digits) then Some (capped cap (from_digits (take kept digits) * 10 ^ zeros)) else None
