-- What std's reading of a number says of a short text without a sign.
use Rattle.std.proofs.Common.{◌≡◌, ◌≢◌, ◌≤◌, ◌<◌, ◌^◌, ℕ, true, List, length, get_or, Ok, Err, arith}
use Rattle.std.specs.Str.{all_ascii_digits}
use Rattle.std.specs.Str.Parse.{ParsesUnsigned, digits_value}
use Rattle.std.proofs.lemmas.Str.Parse.{IsNumeralModel, digits_value_short, numerals_by_value, parse_plain, tells_all_ascii_digits}
use Rattle.std.specs.declared.num.ParseIntError.{ParseIntError}
use Rattle.geosop_line.specs.Numbers.{IsNumber}

-- digits and their value are std's own
own : IsNumeralModel (λ ds. all_ascii_digits ds ≡ true) (digits_value 10)
own = numerals_by_value _ tells_all_ascii_digits

-- four digits have a value that fits 32 bits
small_value : (text : List ℕ) → all_ascii_digits text ≡ true → length text ≤ 4 → digits_value 10 text < 2 ^ 32
small_value text digits few = omega (arith, digits_value_short own text 4 digits few)

-- a number that was read is that of the text, where it is within the limit
pub number_read : (most : ℕ) (text : List ℕ) (n : ℕ) → ParsesUnsigned {E = ParseIntError} 32 10 text (Ok n)
    → get_or text 0 0 ≢ 43 → length text ≤ 4 → 1 ≤ n → n ≤ most → IsNumber most text n
number_read most text n read plain few positive within =
    let it = parse_plain own {E = ParseIntError} 32 text (Ok n) read plain in record {
      some = it.0.1;
      few = few;
      digits = it.0.0;
      value = it.1;
      positive = positive;
      within = within;
    }

-- where none was read the text has none
pub number_unread : (most : ℕ) (text : List ℕ) (e : ParseIntError) → ParsesUnsigned {E = ParseIntError} 32 10 text (Err e)
    → get_or text 0 0 ≢ 43 → (n : ℕ) → ¬ IsNumber most text n
number_unread most text e read plain n is =
    parse_plain own {E = ParseIntError} 32 text (Err e) read plain (is.digits, is.some, small_value text is.digits is.few)
