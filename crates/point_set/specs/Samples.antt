-- What is seen of two figures at a point, and the matrix of what is seen at some points.
use Rattle.std.specs.Prelude.{◌≡◌, ◌≢◌, ℕ, ◌<◌, ◌≤◌, ◌⊎◌, List}
use Rattle.im_matrix.specs.Cells.{rank, dimension_at, start_dimension}
use Rattle.im_matrix.specs.declared.Cell.{Cell}
use Rattle.im_matrix.specs.declared.Dim.{Dim}
use Rattle.im_matrix.specs.declared.Dim.TheVariants.{Empty, Zero, One, Two}
use Rattle.im_matrix.specs.declared.Matrix.{Matrix}
use Rattle.plane_laws.specs.Plane.{Point}
use Rattle.plane_laws.specs.Directions.{Direction}
use Rattle.plane_exact.specs.Orders.{direction_of}
use Rattle.plane_exact.specs.declared.dir.Dir.{Dir}
use Rattle.point_set.specs.declared.figure.Figure.{Figure}
use Rattle.point_set.specs.declared.rule.Rule.{Rule}
use Rattle.point_set.specs.Germ.{IsPairGerm}
use Rattle.point_set.specs.Relation.{IsInCell}
use Rattle.point_set.specs.Sectors.{IsMiddle, sectors_of}
use Rattle.point_set.specs.Validity.{IsAtPlace}
use Rattle.point_set.specs.Nodes.{segs_of_both, AreEdgeDirections, IsNode}

-- Along an edge direction at v the germ is the cell.
pub record IsSeenOnEdge (a b : Figure) (rule : Rule) (v : Point) (c : Cell) : Type 0 where
  pub rays : List Dir
  pub rays_are : AreEdgeDirections v (segs_of_both a b) rays
  pub i : ℕ
  pub ray : Dir
  pub ray_is : IsAtPlace rays i ray
  pub germ : IsPairGerm a b rule v (direction_of ray) c

-- Along the middle of a sector at v the germ is the cell.
pub record IsSeenInSector (a b : Figure) (rule : Rule) (v : Point) (c : Cell) : Type 0 where
  pub rays : List Dir
  pub rays_are : AreEdgeDirections v (segs_of_both a b) rays
  pub i : ℕ
  pub sector : i < sectors_of rays
  pub middle : Direction
  pub middle_is : IsMiddle rays i middle
  pub germ : IsPairGerm a b rule v middle c

-- A sample of a cell at v: dimension Zero at v itself, One along an edge direction, Two in a sector.
abbrev pub IsSampleAt : Figure → Figure → Rule → Point → Cell → Dim → Type 0
IsSampleAt a b rule v c Empty = ⊥
IsSampleAt a b rule v c Zero = IsInCell a b rule c v
IsSampleAt a b rule v c One = IsSeenOnEdge a b rule v c
IsSampleAt a b rule v c Two = IsSeenInSector a b rule v c

-- A sample of a cell at one of some points.
pub record IsSample (Nodes : Point → Type 0) (a b : Figure) (rule : Rule) (c : Cell) (d : Dim) : Type 0 where
  pub v : Point
  pub is_node : Nodes v
  pub sample : IsSampleAt a b rule v c d

-- The greatest of some dimensions, or Empty where there is none.
pub record IsGreatest (Is : Dim → Type 0) (d : Dim) : Type 0 where
  pub one : d ≢ Empty → Is d
  pub most : (e : Dim) → Is e → rank e ≤ rank d

-- The matrix of the samples at some points: in each cell the greatest sample, and Two where both parts are exterior.
abbrev pub IsMatrixOfSamples : (Point → Type 0) → Figure → Figure → Rule → Matrix → Type 0
IsMatrixOfSamples Nodes a b rule m =
    (c : Cell) → IsGreatest (λ d. (d ≡ start_dimension c) ⊎ IsSample Nodes a b rule c d) (dimension_at m c)

-- The sample matrix of two figures: that of the samples at all their nodes.
abbrev pub IsSampleMatrix : Figure → Figure → Rule → Matrix → Type 0
IsSampleMatrix a b rule m = IsMatrixOfSamples (IsNode a b) a b rule m
