-- What is said of a number in the place of x or y.
use Rattle.std.specs.Prelude.{ℕ, Bool, nat_lt, if◌then◌else◌, List, length, Option, Some, None}
use Rattle.plane_exact.specs.Limits.{limit}
use Rattle.text_laws.specs.Numbers.{is_minus, is_formed, Ratio, ratio_of, is_whole, size_of, signed}
use Rattle.wkt_text.specs.Limits.{most_bytes}
use Rattle.wkt_text.specs.declared.number.Numeral.{Numeral}
use Rattle.wkt_text.specs.declared.number.Numeral.TheVariants.{Long, Malformed, Fraction, Wide, Whole}

-- What is said of a value: it isn't whole, or it is above the limit in size, or it is this number.
abbrev pub value_of : Bool → Ratio → Numeral
value_of minus r =
    if is_whole r then (if nat_lt limit (size_of r) then Wide else Whole (signed minus (size_of r))) else Fraction

-- What is said of a number, the tests in their order: more than 64 bytes, another form, the value.
abbrev pub numeral_of : ℕ → List ℕ → Numeral
numeral_of scale text =
    if nat_lt most_bytes (length text) then Long
    else (if is_formed text then value_of (is_minus text) (ratio_of text scale) else Malformed)

-- What is said of a whole number of this sign and size, or of one that isn't whole.
abbrev pub judged : Bool → Option ℕ → Numeral
judged minus None = Fraction
judged minus (Some size) = if nat_lt limit size then Wide else Whole (signed minus size)
