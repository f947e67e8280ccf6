-- The summary of a text's lines: each distinct line with how often it is there, as `sort` and `uniq -c` tell it.
use Rattle.std.specs.Prelude.{◌≡◌, ℕ, List, [], ◌∷◌, ◌++◌, length, flat_map, nat_eq, if◌then◌else◌, codes, decimal, count_by}
use Rattle.std.specs.List.{All, Contains}
use Rattle.std.specs.List.Sorted.{IsStrictlySortedBy}
use Rattle.std.specs.Ordering.{nat_cmp}
use Rattle.std.specs.Cmp.Lexicographic.{slice_cmp}
use Rattle.std.specs.Str.{bytes_eq}

-- The byte that ends a line.
abbrev pub line_feed : ℕ
line_feed = 10

-- The lines of a text of which something is read, where this is begun of the next line.
abbrev pub lines_after : List ℕ → List ℕ → List (List ℕ)
lines_after begun [] = []
lines_after begun (byte ∷ rest) =
    if nat_eq byte line_feed then begun ∷ lines_after [] rest else lines_after (begun ++ byte ∷ []) rest

-- The lines of a text: what stands before each line feed. What follows the last one is no line.
abbrev pub lines_of : List ℕ → List (List ℕ)
lines_of text = lines_after [] text

-- How often a line is among some.
abbrev pub count_of : List (List ℕ) → List ℕ → ℕ
count_of lines line = count_by (bytes_eq line) lines

-- These are the distinct lines among some, each once, ascending by their bytes.
pub record AreDistinctOf (lines distinct : List (List ℕ)) : Type 0 where
  pub ascending : IsStrictlySortedBy (slice_cmp nat_cmp) distinct
  pub none_else : All (Contains lines) distinct
  pub none_left : All (Contains distinct) lines

-- What is said of a line: the line, a space and how often it is among some.
abbrev pub tally_of : List (List ℕ) → List ℕ → List ℕ
tally_of lines line = line ++ codes " " ++ decimal (count_of lines line) ++ line_feed ∷ []

-- What is said of all lines: that they come of so many pairs, each of which has one.
abbrev pub total_of : List (List ℕ) → List ℕ
total_of lines = codes "pairs " ++ decimal (length lines) ++ line_feed ∷ []

-- The summary of a text with one line for each pair: the tally of each distinct line, ascending by bytes, and then how many pairs.
pub record IsSummaryOf (text summary : List ℕ) : Type 0 where
  pub distinct : List (List ℕ)
  pub are_distinct : AreDistinctOf (lines_of text) distinct
  pub spelled : summary ≡ flat_map (tally_of (lines_of text)) distinct ++ total_of (lines_of text)
