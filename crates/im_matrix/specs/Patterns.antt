-- Patterns of nine characters, and when a matrix matches one.
use Rattle.std.specs.Prelude.{◌≡◌, ◌==◌, ◌<◌, ◌+◌, ℕ, Bool, true, false, not, ◌&&◌, ◌⊎◌, Option, Some, None, List, [], ◌∷◌, length, map}
use Rattle.std.specs.Prelude.{codes, if◌then◌else◌, slice_get}
use Rattle.std.specs.List.{list_any}
use Rattle.im_matrix.specs.declared.Dim.{Dim}
use Rattle.im_matrix.specs.declared.Dim.TheVariants.{Empty, Zero, One, Two}
use Rattle.im_matrix.specs.declared.Cell.{Cell}
use Rattle.im_matrix.specs.declared.Matrix.{Matrix}
use Rattle.im_matrix.specs.declared.patterns.Mark.{Mark}
use Rattle.im_matrix.specs.declared.patterns.Mark.TheVariants.{Present, Absent, Any, Points, Lines, Areas}
use Rattle.im_matrix.specs.declared.parts.Parts.{Parts}
use Rattle.im_matrix.specs.declared.patterns.Pattern.{Pattern}
use Rattle.im_matrix.specs.Cells.{character_of, dimension_at, all_cells}
use Rattle.im_matrix.specs.Parts.{at_part}

-- the set has a point
abbrev pub is_present : Dim → Bool
is_present Empty = false
is_present Zero = true
is_present One = true
is_present Two = true

-- 'T' asks for a point, 'F' for none, '*' for nothing, a digit for the dimension of that character
abbrev pub accepts : ℕ → Dim → Bool
accepts c d =
    if c == 84 then is_present d
    else (if c == 70 then not (is_present d)
    else (if c == 42 then true
    else c == character_of d))

-- there are as many characters as dimensions, and each accepts the one at its place
abbrev pub all_accept : List ℕ → List Dim → Bool
all_accept [] [] = true
all_accept (c ∷ cs) (d ∷ ds) = accepts c d && all_accept cs ds
all_accept cs ds = false

-- each of the pattern's nine characters accepts the dimension of its cell
abbrev pub text_matches : List ℕ → Matrix → Bool
text_matches pattern m = all_accept pattern (map (dimension_at m) all_cells)

-- the character of a mark
abbrev pub mark_character : Mark → ℕ
mark_character Present = 84
mark_character Absent = 70
mark_character Any = 42
mark_character Points = 48
mark_character Lines = 49
mark_character Areas = 50

-- the least and the greatest dimension that a mark accepts
abbrev pub range_of : Mark → Dim × Dim
range_of Present = (Zero, Two)
range_of Absent = (Empty, Empty)
range_of Any = (Empty, Two)
range_of Points = (Zero, Zero)
range_of Lines = (One, One)
range_of Areas = (Two, Two)

-- the mark that the pattern has for a cell
abbrev pub mark_at : Pattern → Cell → Mark
mark_at p c = at_part (at_part p.marks c.a) c.b

-- the nine characters of a pattern, in the order of the cells
abbrev pub pattern_text : Pattern → List ℕ
pattern_text p = map (λ c. mark_character (mark_at p c)) all_cells

-- there is a character, and it is one of the six
abbrev pub is_right : Option ℕ → Bool
is_right None = false
is_right (Some c) = list_any (λ x. x == c) (codes "TF*012")

-- the text's characters are right up to here
abbrev pub RightBelow : List ℕ → ℕ → Type 0
RightBelow text place = (i : ℕ) → i < place → is_right (slice_get text i) ≡ true

-- the text has the three marks of a row from this place on
pub record HasRowAt (text : List ℕ) (first : ℕ) (row : Parts Mark) : Type 0 where
  pub interior : slice_get text first ≡ Some (mark_character row.interior)
  pub boundary : slice_get text (first + 1) ≡ Some (mark_character row.boundary)
  pub exterior : slice_get text (first + 2) ≡ Some (mark_character row.exterior)

-- the text is no pattern, and this is where it first goes wrong: one of the first nine characters
-- is absent or another one, or all nine are right and more follow
pub record HasFaultAt (text : List ℕ) (place : ℕ) : Type 0 where
  pub right_before : RightBelow text place
  pub wrong_here :
      ((place < 9) × (is_right (slice_get text place) ≡ false)) ⊎ ((place ≡ 9) × (9 < length text))
