-- Matrices that are at least another one.
use Rattle.std.proofs.Common.{◌≡◌, ◌≤◌, Bool, true, false, sym, subst, arith}
use Rattle.std.proofs.lemmas.Bool.Decides.{nat_tests}
use Rattle.std.specs.Prelude.{◌==◌, ◌&&◌, ◌||◌, not, nat_lt}
use Rattle.im_matrix.specs.declared.Loc.{Loc}
use Rattle.im_matrix.specs.declared.Loc.TheVariants.{Interior, Boundary, Exterior}
use Rattle.im_matrix.specs.declared.Cell.{Cell}
use Rattle.im_matrix.specs.declared.Dim.{Dim}
use Rattle.im_matrix.specs.declared.Dim.TheVariants.{Zero, One, Two}
use Rattle.im_matrix.specs.declared.Matrix.{Matrix}
use Rattle.im_matrix.specs.Cells.{rank, greater, character_of, cell, dimension_at}
use Rattle.im_matrix.specs.Patterns.{is_present}
use Rattle.im_matrix.proofs.Laws.{rank-most, matrix_by, dimension_at-matrix_by}
use Rattle.topo_pred.specs.Later.{IsAtLeast}

-- a matrix is at least itself
pub itself : (m : Matrix) → IsAtLeast m m
itself m c = omega arith

-- a matrix with given dimensions, none of which is below the matrix's own
pub matrix_by-least :
    (f : Cell → Dim) (m : Matrix) → ((c : Cell) → rank (dimension_at m c) ≤ rank (f c)) → IsAtLeast (matrix_by f) m
matrix_by-least f m up c =
    subst (λ (d : Dim). rank (dimension_at m c) ≤ rank d) (sym (dimension_at-matrix_by f c)) (up c)

-- every cell is Two
abbrev pub everywhere : Matrix
everywhere = matrix_by (λ _. Two)

-- no matrix is above it
pub everywhere-most : (m : Matrix) → IsAtLeast everywhere m
everywhere-most m = matrix_by-least (λ _. Two) m (λ c. rank-most (dimension_at m c))

-- ---- three cells of A's interior and one of A's exterior
-- these dimensions there, and the matrix's own in all other cells
abbrev dimension_with : Matrix → Dim → Dim → Dim → Dim → Loc → Loc → Dim
dimension_with m ii ib ie ei Interior Interior = ii
dimension_with m ii ib ie ei Interior Boundary = ib
dimension_with m ii ib ie ei Interior Exterior = ie
dimension_with m ii ib ie ei Exterior Interior = ei
dimension_with m ii ib ie ei a b = dimension_at m (cell a b)

-- the matrix with these
abbrev pub with_cells : Matrix → Dim → Dim → Dim → Dim → Matrix
with_cells m ii ib ie ei = matrix_by (λ c. dimension_with m ii ib ie ei c.a c.b)

-- it is at least the matrix where these four are at least what they were
pub with_cells-least :
    (m : Matrix) (ii ib ie ei : Dim) → rank (dimension_at m (cell Interior Interior)) ≤ rank ii
    → rank (dimension_at m (cell Interior Boundary)) ≤ rank ib → rank (dimension_at m (cell Interior Exterior)) ≤ rank ie
    → rank (dimension_at m (cell Exterior Interior)) ≤ rank ei → IsAtLeast (with_cells m ii ib ie ei) m
with_cells-least m ii ib ie ei h k l n =
    matrix_by-least (λ c. dimension_with m ii ib ie ei c.a c.b) m (λ c. least c.a c.b)
  where
    least : (a b : Loc) → rank (dimension_at m (cell a b)) ≤ rank (dimension_with m ii ib ie ei a b)
    least Interior Interior = h
    least Interior Boundary = k
    least Interior Exterior = l
    least Exterior Interior = n
    least a b = omega arith

-- ---- single dimensions
-- points alone: points, and no more
pub is_points : (d : Dim) → ((48 == character_of d) && true) || false ≡ is_present d && not (nat_lt 1 (rank d))
is_points d = grind (arith, nat_tests)

-- lines alone and two more tests: lines or areas, and no areas
pub is_lines :
    (d : Dim) (b c : Bool) →
    ((49 == character_of d) && (b && (c && true))) || false ≡ (nat_lt 1 (rank d) && b && c) && not (nat_lt 2 (rank d))
is_lines d b c = grind (arith, nat_tests)

-- raised to Zero there is a point
pub is_present-greater_zero : (d : Dim) → is_present (greater d Zero) ≡ true
is_present-greater_zero d = grind arith

-- and lines only where they were
pub rank-greater_zero : (d : Dim) → nat_lt 1 (rank (greater d Zero)) ≡ nat_lt 1 (rank d)
rank-greater_zero d = grind (arith, nat_tests)

-- raised to One there is a line
pub rank-greater_one : (d : Dim) → (nat_lt 1 (rank (greater d One)) && true && true) ≡ true
rank-greater_one d = grind (arith, nat_tests)

-- and areas only where they were
pub rank-greater_one-two : (d : Dim) → nat_lt 2 (rank (greater d One)) ≡ nat_lt 2 (rank d)
rank-greater_one-two d = grind (arith, nat_tests)
