-- Classes of bytes.
use Rattle.std.specs.Prelude.{ℕ, Bool, ◌||◌, ◌==◌}
use Rattle.std.specs.Char.{is_ascii_digit}

-- Space, tab, line feed and carriage return.
abbrev pub is_white : ℕ → Bool
is_white b = (((b == 32) || (b == 9)) || (b == 10)) || (b == 13)

-- Digits and the point.
abbrev pub is_of_mantissa : ℕ → Bool
is_of_mantissa b = is_ascii_digit b || (b == 46)

-- The bytes of numbers: digits, signs, the point, and the letters e and E.
abbrev pub is_numeric : ℕ → Bool
is_numeric b = ((((is_ascii_digit b || (b == 43)) || (b == 45)) || (b == 46)) || (b == 101)) || (b == 69)
