-- The shape that a figure has to have before anything is asked of its rings, and its own dimension.
use Rattle.std.specs.Prelude.{◌≡◌, ℕ, ◌+◌, ◌-◌, ◌≤◌, slice_get, Bool, true, false, not, ◌||◌, List, [], ◌∷◌, length, sum_by}
use Rattle.std.specs.List.{All, list_any}
use Rattle.im_matrix.specs.declared.Dim.{Dim}
use Rattle.im_matrix.specs.declared.Dim.TheVariants.{Empty, Zero, One, Two}
use Rattle.plane_exact.specs.Limits.{most_positions}
use Rattle.plane_exact.specs.Places.{IsInLimit}
use Rattle.plane_exact.specs.declared.point.Pt.{Pt}
use Rattle.point_set.specs.declared.figure.Area.{Area}
use Rattle.point_set.specs.declared.figure.Figure.{Figure}
use Rattle.point_set.specs.Lines.{is_still}

-- Every position of a way is within the limit.
abbrev pub IsWayInLimit : List Pt → Type 0
IsWayInLimit way = All IsInLimit way

-- A line has at least two positions.
pub record IsLineShaped (line : List Pt) : Type 0 where
  pub within : IsWayInLimit line
  pub long : 2 ≤ length line

-- The first position of a way is its last.
abbrev pub IsClosed : List Pt → Type 0
IsClosed way = slice_get way 0 ≡ slice_get way (length way - 1)

-- A ring has at least four positions, and its first equals its last.
pub record IsRingShaped (ring : List Pt) : Type 0 where
  pub within : IsWayInLimit ring
  pub long : 4 ≤ length ring
  pub closed : IsClosed ring

-- The shell and every hole of an area have a ring's shape.
pub record IsAreaShaped (area : Area) : Type 0 where
  pub shell : IsRingShaped area.shell
  pub holes : All IsRingShaped area.holes

-- How many positions an area has.
abbrev pub positions_of_area : Area → ℕ
positions_of_area area = length area.shell + sum_by length area.holes

-- How many positions a figure has in all.
abbrev pub positions_of : Figure → ℕ
positions_of f = (length f.points + sum_by length f.lines) + sum_by positions_of_area f.areas

-- A figure has the shape of a geometry: coordinates within the limit, lines of two positions or more, closed rings of four
-- or more, and at most 1,048,576 positions in all.
pub record IsWellShaped (f : Figure) : Type 0 where
  pub points : IsWayInLimit f.points
  pub lines : All IsLineShaped f.lines
  pub areas : All IsAreaShaped f.areas
  pub few : positions_of f ≤ most_positions

-- Whether a list has an item.
abbrev pub has_item : {T : Type 0} → List T → Bool
has_item [] = false
has_item (x ∷ xs) = true

-- Whether a line has two different positions.
abbrev pub is_moving : List Pt → Bool
is_moving line = not (is_still line)

-- The dimension that three tests give: an area; a line that moves; any line or point.
abbrev pub dimension_by : Bool → Bool → Bool → Dim
dimension_by true moving some = Two
dimension_by false true some = One
dimension_by false false true = Zero
dimension_by false false false = Empty

-- The dimension of a figure: Two where there is an area, else One where there is a line with two different positions, else
-- Zero where there is a line or a point, else Empty.
abbrev pub dimension_of : Figure → Dim
dimension_of f = dimension_by (has_item f.areas) (list_any is_moving f.lines) (has_item f.lines || has_item f.points)
