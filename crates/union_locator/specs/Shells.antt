-- The boxes of the shells of areas, and which shells are near a point.
use Rattle.std.specs.Prelude.{◌≡◌, ℕ, ◌≤◌, List, Option, Some, IfSome, length, map, Contains}
use Rattle.std.specs.List.{All}
use Rattle.std.specs.List.Sorted.{IsStrictlyIncreasing}
use Rattle.plane_laws.specs.Plane.{Point, IsSamePoint}
use Rattle.plane_exact.specs.Windows.{IsLeastWindow, HasCommonPoint, diagonal_of}
use Rattle.plane_exact.specs.declared.window.Window.{Window}
use Rattle.edge_index.specs.Index.{SeenIndex}
use Rattle.point_set.specs.declared.figure.Area.{Area}
use Rattle.point_set.specs.Extents.{IsEnvelope}
use Rattle.point_set.specs.Validity.{IsAtPlace}

-- The least box that holds all positions of an area's shell, of which there are some.
abbrev pub IsShellBox : Area → Window → Type 0
IsShellBox area box = IsEnvelope area.shell (Some box)

-- The box of the shell of each of some areas, in order.
pub record AreShellBoxes (areas : List Area) (boxes : List Window) : Type 0 where
  pub count : length boxes ≡ length areas
  pub each : (place : ℕ) (area : Area) (box : Window) → IsAtPlace areas place area → IsAtPlace boxes place box → IsShellBox area box

-- The least box round a point has a common point with the box of an area's shell.
pub record IsShellNear (area : Area) (p : Point) : Type 0 where
  pub window : Window
  pub round : IsLeastWindow (IsSamePoint p) window
  pub box : Window
  pub is : IsShellBox area box
  pub common : HasCommonPoint window box

-- The shell of the area at a place is near a point.
pub record IsShellNearAt (areas : List Area) (p : Point) (place : ℕ) : Type 0 where
  pub area : Area
  pub area_is : IsAtPlace areas place area
  pub near : IsShellNear area p

-- Exactly the places of the areas whose shells are near a point, ascending.
pub record AreShellsNear (areas : List Area) (p : Point) (places : List ℕ) : Type 0 where
  pub window : Window
  pub round : IsLeastWindow (IsSamePoint p) window
  pub ascending : IsStrictlyIncreasing places
  pub near : All (IsShellNearAt areas p) places
  pub whole : (place : ℕ) → IsShellNearAt areas p place → Contains places place

-- The box at a place of a list has a common point with a window.
pub record IsBoxNearAt (w : Window) (boxes : List Window) (place : ℕ) : Type 0 where
  pub box : Window
  pub box_is : IsAtPlace boxes place box
  pub common : HasCommonPoint w box

-- Exactly the places of the boxes that have a common point with a window, ascending.
pub record AreBoxesNear (w : Window) (boxes : List Window) (places : List ℕ) : Type 0 where
  pub ascending : IsStrictlyIncreasing places
  pub near : All (IsBoxNearAt w boxes) places
  pub whole : (place : ℕ) → IsBoxNearAt w boxes place → Contains places place

-- At most 1,048,576 boxes, and once it is made an index of their diagonals.
pub record AreIndexedShells (boxes : List Window) (index : Option SeenIndex) : Type 0 where
  pub few : length boxes ≤ 1048576
  pub indexed : IfSome index (λ found. found.segs ≡ map diagonal_of boxes)
