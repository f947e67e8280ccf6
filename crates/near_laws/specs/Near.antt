-- Near nodes, and what two figures have outside of a box.
use Rattle.std.specs.Prelude.{◌≡◌, ◌⊎◌, Bool, true, false, not, ◌≤◌, Option}
use Rattle.im_matrix.specs.Cells.{rank, dimension_at}
use Rattle.im_matrix.specs.declared.Cell.{Cell}
use Rattle.im_matrix.specs.declared.Dim.{Dim}
use Rattle.im_matrix.specs.declared.Dim.TheVariants.{Empty, Zero, One, Two}
use Rattle.im_matrix.specs.declared.Loc.{Loc}
use Rattle.im_matrix.specs.declared.Loc.TheVariants.{Interior, Boundary, Exterior}
use Rattle.im_matrix.specs.declared.Matrix.{Matrix}
use Rattle.plane_laws.specs.Plane.{Point}
use Rattle.plane_exact.specs.declared.window.Window.{Window}
use Rattle.point_set.specs.declared.extent.Extent.{Extent}
use Rattle.point_set.specs.declared.figure.Figure.{Figure}
use Rattle.point_set.specs.declared.rule.Rule.{Rule}
use Rattle.point_set.specs.Dimension.{ShowsDimension}
use Rattle.point_set.specs.Extents.{IsExtent}
use Rattle.point_set.specs.Nodes.{IsFewNode}
use Rattle.point_set.specs.Relation.{IsInCell, IsMatrixOf}
use Rattle.point_set.specs.Samples.{IsSample, IsSampleAt, IsGreatest}
use Rattle.box_laws.specs.Boxes.{HoldsCommonPart, IsNearWindow, sticks_out}

-- ---- near nodes
-- One of the few nodes that is near a box, where there is one.
abbrev pub IsNearNode : Option Window → Figure → Figure → Point → Type 0
IsNearNode w a b v = IsFewNode a b v × IsNearWindow w v

-- ---- what is far
-- The dimension of an interior by what it has: areas, lines, points.
abbrev pub interior_by : Bool → Bool → Bool → Dim
interior_by true lines points = Two
interior_by false true points = One
interior_by false false true = Zero
interior_by false false false = Empty

-- The dimension of a boundary by what it has: areas, line ends.
abbrev pub boundary_by : Bool → Bool → Dim
boundary_by true ends = One
boundary_by false true = Zero
boundary_by false false = Empty

-- The dimension of what a part of a figure has outside of a box. Of the exterior nothing is told here.
abbrev pub beyond : Extent → Option Window → Loc → Dim
beyond x w Interior = interior_by (sticks_out x.areas w) (sticks_out x.lines w) (sticks_out x.points w)
beyond x w Boundary = boundary_by (sticks_out x.areas w) (sticks_out x.ends w)
beyond x w Exterior = Empty

-- What the envelopes tell of two parts: outside of the box a point is in the exterior of one of the figures.
abbrev pub beyond_parts : Extent → Extent → Option Window → Loc → Loc → Dim
beyond_parts x y w Exterior Exterior = Two
beyond_parts x y w Interior Exterior = beyond x w Interior
beyond_parts x y w Boundary Exterior = beyond x w Boundary
beyond_parts x y w Exterior Interior = beyond y w Interior
beyond_parts x y w Exterior Boundary = beyond y w Boundary
beyond_parts x y w Interior Interior = Empty
beyond_parts x y w Interior Boundary = Empty
beyond_parts x y w Boundary Interior = Empty
beyond_parts x y w Boundary Boundary = Empty

-- What the envelopes tell of a cell.
abbrev pub beyond_cell : Extent → Extent → Option Window → Cell → Dim
beyond_cell x y w c = beyond_parts x y w c.a c.b

-- ---- the laws
-- What the envelopes tell is there.
abbrev pub LawBeyondIsThere : Figure → Figure → Rule → Type 0
LawBeyondIsThere a b rule =
    (x y : Extent) → IsExtent a rule x → IsExtent b rule y → (w : Option Window) → HoldsCommonPart a b rule w
    → (c : Cell) → ShowsDimension (IsInCell a b rule c) (beyond_cell x y w c)

-- A point that isn't near shows no more than the envelopes tell, be it a node or not. So it needs no look.
abbrev pub LawFarShowsNoMore : Figure → Figure → Rule → Type 0
LawFarShowsNoMore a b rule =
    (x y : Extent) → IsExtent a rule x → IsExtent b rule y → (w : Option Window) → HoldsCommonPart a b rule w
    → (v : Point) → ¬ IsNearWindow w v → (c : Cell) (d : Dim)
    → IsSampleAt a b rule v c d → rank d ≤ rank (beyond_cell x y w c)

-- The near nodes and the envelopes decide the cells.
abbrev pub LawNearDecide : Figure → Figure → Rule → Type 0
LawNearDecide a b rule =
    (x y : Extent) → IsExtent a rule x → IsExtent b rule y → (w : Option Window) → HoldsCommonPart a b rule w → (m : Matrix)
    → ((c : Cell) → IsGreatest (λ d. (d ≡ beyond_cell x y w c) ⊎ IsSample (IsNearNode w a b) a b rule c d) (dimension_at m c))
    → IsMatrixOf a b rule m
