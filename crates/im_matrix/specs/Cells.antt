-- Dimensions, cells and the matrix.
use Rattle.std.specs.Prelude.{ℕ, List, [], ◌∷◌, map}
use Rattle.im_matrix.specs.declared.Loc.{Loc}
use Rattle.im_matrix.specs.declared.Loc.TheVariants.{Interior, Boundary, Exterior}
use Rattle.im_matrix.specs.declared.Dim.{Dim}
use Rattle.im_matrix.specs.declared.Dim.TheVariants.{Empty, Zero, One, Two}
use Rattle.im_matrix.specs.declared.Cell.{Cell}
use Rattle.im_matrix.specs.declared.Matrix.{Matrix}
use Rattle.im_matrix.specs.Parts.{at_part}

-- the place of a dimension in their order
abbrev pub rank : Dim → ℕ
rank Empty = 0
rank Zero = 1
rank One = 2
rank Two = 3

-- the greater of two dimensions
abbrev pub greater : Dim → Dim → Dim
greater Empty e = e
greater Zero Empty = Zero
greater Zero e = e
greater One Two = Two
greater One e = One
greater Two e = Two

-- the cell of a part of A's plane and a part of B's
abbrev pub cell : Loc → Loc → Cell
cell a b = record { a = a; b = b }

-- the dimension that the matrix has in a cell
abbrev pub dimension_at : Matrix → Cell → Dim
dimension_at m c = at_part (at_part m.dims c.a) c.b

-- before anything is known: Two where both parts are exterior, else Empty
abbrev pub start_dimension : Cell → Dim
start_dimension c = start_by c.a c.b where
  start_by : Loc → Loc → Dim
  start_by Exterior Exterior = Two
  start_by a b = Empty

-- the nine cells in the order of the text: II IB IE BI BB BE EI EB EE
abbrev pub all_cells : List Cell
all_cells =
    cell Interior Interior ∷ cell Interior Boundary ∷ cell Interior Exterior ∷
    cell Boundary Interior ∷ cell Boundary Boundary ∷ cell Boundary Exterior ∷
    cell Exterior Interior ∷ cell Exterior Boundary ∷ cell Exterior Exterior ∷ []

-- the character of a dimension: 'F', '0', '1' or '2'
abbrev pub character_of : Dim → ℕ
character_of Empty = 70
character_of Zero = 48
character_of One = 49
character_of Two = 50

-- the characters of the nine cells in order
abbrev pub matrix_text : Matrix → List ℕ
matrix_text m = map (λ c. character_of (dimension_at m c)) all_cells
