-- Tables of line ends and of spots.
use Rattle.std.specs.Prelude.{◌≡◌, List}
use Rattle.std.specs.List.Sorted.{IsPermutation}
use Rattle.plane_laws.specs.Plane.{Point}
use Rattle.plane_exact.specs.declared.point.Pt.{Pt}
use Rattle.point_set.specs.Lines.{ends_of_lines, is_at_some}
use Rattle.point_set.specs.Location.{is_at_point}
use Rattle.point_set.specs.declared.figure.Figure.{Figure}

-- Line ends, and spots.
pub record SeenEnds : Type 0 where
  pub ends : List Pt
  pub spots : List Pt

-- The ends are those of all lines of a figure, in some order, where a closed line gives its start twice. A point is at one of
-- the spots exactly where it is at a point of the figure or at a line whose positions are all equal.
pub record AreEndsOf (f : Figure) (seen : SeenEnds) : Type 0 where
  pub ends : IsPermutation (ends_of_lines f.lines) seen.ends
  pub spots : (p : Point) → is_at_some p seen.spots ≡ is_at_point f p
