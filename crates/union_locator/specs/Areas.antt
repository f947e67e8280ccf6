-- What the single areas of a figure say of a point.
use Rattle.std.specs.Prelude.{◌≡◌, ℕ, ◌<◌, List, Option, IfSome, length, map, Contains}
use Rattle.std.specs.List.{All, Any}
use Rattle.std.specs.List.Sorted.{IsStrictlyIncreasing}
use Rattle.im_matrix.specs.declared.Loc.{Loc}
use Rattle.im_matrix.specs.declared.Loc.TheVariants.{Interior, Boundary, Exterior}
use Rattle.plane_laws.specs.Plane.{Point}
use Rattle.plane_exact.specs.declared.point.Seg.{Seg}
use Rattle.point_set.specs.declared.figure.Area.{Area}
use Rattle.point_set.specs.declared.figure.Figure.{Figure}
use Rattle.point_set.specs.Location.{location}
use Rattle.plane_exact.specs.declared.window.Window.{Window}
use Rattle.point_set.specs.Shape.{IsWellShaped}
use Rattle.point_set.specs.Validity.{IsAtPlace, IsValid}
use Rattle.area_locator.specs.Indexed.{edges_of_area}
use Rattle.union_locator.specs.Shells.{AreShellBoxes}

-- Where a point lies in the area at a place.
abbrev pub IsInAreaAt : Figure → ℕ → Point → Loc → Type 0
IsInAreaAt f place p loc = (area : Area) → IsAtPlace f.areas place area → loc ≡ location area p

-- Interior where one of the areas has the point inside, else Boundary where one of them has it on its boundary, else Exterior.
abbrev pub IsInAreas : List Area → Point → Loc → Type 0
IsInAreas areas p Interior = Any (λ area. location area p ≡ Interior) areas
IsInAreas areas p Boundary =
    All (λ area. ¬ (location area p ≡ Interior)) areas × Any (λ area. location area p ≡ Boundary) areas
IsInAreas areas p Exterior = All (λ area. location area p ≡ Exterior) areas

-- Places of areas, ascending; a point is outside of every area at another place.
pub record AreNearAreas (areas : List Area) (p : Point) (places : List ℕ) : Type 0 where
  pub ascending : IsStrictlyIncreasing places
  pub within : All (λ place. place < length areas) places
  pub far : (place : ℕ) (area : Area) → IsAtPlace areas place area → ¬ Contains places place → location area p ≡ Exterior

-- A valid figure, and lists of edges: those of each of its areas in order.
pub record AreEdgesByArea (f : Figure) (lists : List (List Seg)) : Type 0 where
  pub valid : IsValid f
  pub each : lists ≡ map edges_of_area f.areas

-- A figure, the boxes of its areas' shells, and, once they are made, the edges over which the indexes of its areas are.
pub record SeenAreas : Type 0 where
  pub figure : Figure
  pub shells : List Window
  pub indexes : Option (List (List Seg))

-- The figure is valid, the boxes are those of its shells, and each index is over the edges of its area.
pub record AreAreas (seen : SeenAreas) : Type 0 where
  pub shaped : IsWellShaped seen.figure
  pub valid : IsValid seen.figure
  pub shells : AreShellBoxes seen.figure.areas seen.shells
  pub indexes : IfSome seen.indexes (AreEdgesByArea seen.figure)
