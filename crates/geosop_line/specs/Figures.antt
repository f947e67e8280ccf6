-- Where the figures come from: two sources, or the sample generator.
use Rattle.std.specs.Prelude.{◌≡◌, ◌⊎◌, ℕ, Bool, true, false, List, [], Option, Some, None, IsNone, IsSome, bytes_eq, codes}
use Rattle.wkt_text.specs.Words.{is_text}
use Rattle.geosop_line.specs.declared.config.Source.{Source}
use Rattle.geosop_line.specs.declared.config.Source.TheVariants.{Text, File, Stdin}
use Rattle.geosop_line.specs.Arguments.{Value}
use Rattle.geosop_line.specs.Numbers.{IsNumber}

-- Whether a value is standard input.
abbrev pub is_stdin : List ℕ → Bool
is_stdin value = bytes_eq value (codes "stdin")

-- The source that two tests give: standard input, a text.
abbrev pub source_by : Bool → Bool → List ℕ → Source
source_by true text value = Stdin
source_by false true value = Text value
source_by false false value = File value

-- The source that a value names: standard input, a geometry's text, or else a file.
abbrev pub source_of : List ℕ → Source
source_of value = source_by (is_stdin value) (is_text value) value

-- There is no sample, and the sources of A and B are those of the values of `-a` and `-b`, of which one at most is standard input.
pub record ComeFromSources (sample a b : Value) (source_a source_b : Source) : Type 0 where
  pub value_a : List ℕ
  pub value_b : List ℕ
  pub no_sample : sample ≡ None
  pub has_a : a ≡ Some value_a
  pub has_b : b ≡ Some value_b
  pub one_stdin : ¬ ((value_a ≡ codes "stdin") × (value_b ≡ codes "stdin"))
  pub a_is : source_a ≡ source_of value_a
  pub b_is : source_b ≡ source_of value_b

-- The value of `--sample` is the number n, from 1 to 200, there is no `-a` and no `-b`, and both sources are texts of no bytes.
pub record ComeFromSample (sample a b : Value) (n : ℕ) (source_a source_b : Source) : Type 0 where
  pub value : List ℕ
  pub has_sample : sample ≡ Some value
  pub number : IsNumber 200 value n
  pub no_a : a ≡ None
  pub no_b : b ≡ None
  pub a_is : source_a ≡ Text []
  pub b_is : source_b ≡ Text []

-- The sample's number, if any, and the two sources, by the values of `--sample`, `-a` and `-b`.
abbrev pub AreFiguresOf : Value → Value → Value → Option ℕ → Source → Source → Type 0
AreFiguresOf sample a b None source_a source_b = ComeFromSources sample a b source_a source_b
AreFiguresOf sample a b (Some n) source_a source_b = ComeFromSample sample a b n source_a source_b

-- There is a sample, and its value isn't a number from 1 to 200, or `-a` or `-b` is there too.
pub record IsBadSample (sample a b : Value) : Type 0 where
  pub value : List ℕ
  pub has_sample : sample ≡ Some value
  pub bad : ((n : ℕ) → ¬ IsNumber 200 value n) ⊎ (IsSome a ⊎ IsSome b)

-- There is no sample, and `-a` or `-b` is missing or both are standard input.
pub record AreBadSources (sample a b : Value) : Type 0 where
  pub no_sample : sample ≡ None
  pub bad : (IsNone a ⊎ IsNone b) ⊎ ((a ≡ Some (codes "stdin")) × (b ≡ Some (codes "stdin")))
