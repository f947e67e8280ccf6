-- Round a point: what the areas of a figure cover in every direction from it, and what a point is to the union of the areas.
use Rattle.std.specs.Prelude.{◌≡◌, ℕ, ◌<◌, true, false, List}
use Rattle.im_matrix.specs.declared.Loc.{Loc}
use Rattle.im_matrix.specs.declared.Loc.TheVariants.{Interior, Boundary, Exterior}
use Rattle.plane_laws.specs.Plane.{Point}
use Rattle.plane_laws.specs.Directions.{Direction}
use Rattle.plane_laws.specs.Along.{HoldsAlong}
use Rattle.plane_exact.specs.declared.dir.Dir.{Dir}
use Rattle.point_set.specs.declared.figure.Figure.{Figure}
use Rattle.point_set.specs.Location.{is_covered, IsAreaInterior}
use Rattle.point_set.specs.Sectors.{sectors_of, IsInSector}

-- The areas cover the point, and along every direction from it the points near it.
pub record IsCoveredAround (f : Figure) (v : Point) : Type 0 where
  pub here : is_covered f v ≡ true
  pub along : (d : Direction) → HoldsAlong (λ q. is_covered f q ≡ true) v d

-- In every sector of the rays at a point the areas cover what is near it.
abbrev pub AreSectorsCovered : Figure → Point → List Dir → Type 0
AreSectorsCovered f v rays =
    (i : ℕ) → i < sectors_of rays → (d : Direction) → IsInSector rays i d → HoldsAlong (λ q. is_covered f q ≡ true) v d

-- What a point is to the union of the areas: Interior where it is interior to the union, Boundary where it is covered and not
-- interior, Exterior where no area covers it.
abbrev pub IsAdjacent : Figure → Point → Loc → Type 0
IsAdjacent f p Interior = IsAreaInterior f p
IsAdjacent f p Boundary = (is_covered f p ≡ true) × (¬ IsAreaInterior f p)
IsAdjacent f p Exterior = is_covered f p ≡ false
