-- What the edge between two neighbouring positions does to the ray to the right of a point.
use Rattle.std.specs.Prelude.{Bool, true, false}
use Rattle.im_matrix.specs.declared.Loc.{Loc}
use Rattle.im_matrix.specs.declared.Loc.TheVariants.{Interior, Boundary, Exterior}
use Rattle.plane_laws.specs.Plane.{Point}
use Rattle.plane_exact.specs.declared.point.Pt.{Pt}
use Rattle.point_set.specs.Rings.{is_on_edge, crosses}
use Rattle.area_locator.specs.declared.touch.Touch.{Touch}
use Rattle.area_locator.specs.declared.touch.Touch.TheVariants.{Holds, Crosses, Misses}

-- What two tests give: the point is on the edge; its ray crosses the edge.
abbrev pub touch_by : Bool → Bool → Touch
touch_by true crossed = Holds
touch_by false true = Crosses
touch_by false false = Misses

-- What the edge from a to b does, where the two differ; two equal positions are no edge.
abbrev pub touch_of : Bool → Point → Pt → Pt → Touch
touch_of true p a b = Misses
touch_of false p a b = touch_by (is_on_edge p (record { a = a; b = b })) (crosses p (record { a = a; b = b }))

-- The location so far, after one more edge: Boundary where it holds the point, and on the other side where it is crossed.
abbrev pub loc_after : Loc → Touch → Loc
loc_after Boundary touch = Boundary
loc_after Interior Holds = Boundary
loc_after Interior Crosses = Exterior
loc_after Interior Misses = Interior
loc_after Exterior Holds = Boundary
loc_after Exterior Crosses = Interior
loc_after Exterior Misses = Exterior
