-- The classes of bytes that the reader tells apart.
use Rattle.std.specs.Prelude.{ℕ, Bool}
use Rattle.std.specs.Char.{is_ascii_alphabetic, is_ascii_digit}
use Rattle.wkt_text.specs.declared.runs.Class.{Class}
use Rattle.wkt_text.specs.declared.runs.Class.TheVariants.{White, Letter, Digit, Mantissa, Numeric}
pub use Rattle.text_laws.specs.Bytes.{is_white, is_of_mantissa, is_numeric}

-- Whether a class has a byte.
abbrev pub in_class : Class → ℕ → Bool
in_class White b = is_white b
in_class Letter b = is_ascii_alphabetic b
in_class Digit b = is_ascii_digit b
in_class Mantissa b = is_of_mantissa b
in_class Numeric b = is_numeric b
