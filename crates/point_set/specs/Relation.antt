-- The dimensionally extended nine-intersection matrix of two figures (OGC 06-103r4, 6.1.15), as a statement over all points
-- of the plane of fractions.
use Rattle.im_matrix.specs.Cells.{dimension_at}
use Rattle.im_matrix.specs.declared.Cell.{Cell}
use Rattle.im_matrix.specs.declared.Matrix.{Matrix}
use Rattle.plane_laws.specs.Plane.{Point}
use Rattle.point_set.specs.declared.figure.Figure.{Figure}
use Rattle.point_set.specs.declared.rule.Rule.{Rule}
use Rattle.point_set.specs.Location.{IsLocation}
use Rattle.point_set.specs.Dimension.{IsDimension}

-- The point lies in the cell's part of A and in its part of B.
pub record IsInCell (a b : Figure) (rule : Rule) (cell : Cell) (p : Point) : Type 0 where
  pub in_a : IsLocation a rule p cell.a
  pub in_b : IsLocation b rule p cell.b

-- Each cell of the matrix has the dimension of the set of all points that lie in that cell.
abbrev pub IsMatrixOf : Figure → Figure → Rule → Matrix → Type 0
IsMatrixOf a b rule m = (cell : Cell) → IsDimension (IsInCell a b rule cell) (dimension_at m cell)
