-- Numbers in the words.
use Rattle.std.specs.Prelude.{◌≡◌, ◌≤◌, ◌<◌, ◌+◌, ℕ, true, List, [], ◌∷◌, length}
use Rattle.std.specs.Str.{all_ascii_digits}
use Rattle.std.specs.Str.Parse.{digits_value}

-- The text is 1 to 4 ASCII digits, and their value is n, from 1 to a limit.
pub record IsNumber (most : ℕ) (text : List ℕ) (n : ℕ) : Type 0 where
  pub some : 1 ≤ length text
  pub few : length text ≤ 4
  pub digits : all_ascii_digits text ≡ true
  pub value : n ≡ digits_value 10 text
  pub positive : 1 ≤ n
  pub within : n ≤ most

-- The text is one ASCII digit, and d its value.
pub record IsDigit (text : List ℕ) (d : ℕ) : Type 0 where
  pub below : d < 10
  pub digit : text ≡ (48 + d) ∷ []
