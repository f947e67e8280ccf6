-- Boxes round rings and areas.
use Rattle.std.specs.Prelude.{◌≡◌, ℕ, ◌≤ℤ◌, List, length}
use Rattle.std.specs.List.{All, Contains}
use Rattle.plane_exact.specs.declared.point.Pt.{Pt}
use Rattle.plane_exact.specs.declared.window.Window.{Window}
use Rattle.plane_exact.specs.Windows.{HasCommonPoint}
use Rattle.point_set.specs.declared.figure.Area.{Area}
use Rattle.point_set.specs.Location.{rings_of}
use Rattle.point_set.specs.Validity.{IsAtPlace}

-- A position is in a box, its sides and corners included.
pub record IsInBox (box : Window) (p : Pt) : Type 0 where
  pub left : box.low_x ≤ℤ p.x
  pub right : p.x ≤ℤ box.high_x
  pub bottom : box.low_y ≤ℤ p.y
  pub top : p.y ≤ℤ box.high_y

-- A box holds every position of a ring.
abbrev pub IsRoundRing : Window → List Pt → Type 0
IsRoundRing box ring = All (IsInBox box) ring

-- A box holds every position of an area's rings.
abbrev pub IsRoundArea : Window → Area → Type 0
IsRoundArea box area = All (IsRoundRing box) (rings_of area)

-- Each of some figures has the box at its place round it.
pub record AreRound {X : Type 0} (IsRound : Window → X → Type 0) (figures : List X) (boxes : List Window) : Type 0 where
  pub count : length boxes ≡ length figures
  pub round : (place : ℕ) (box : Window) (figure : X) → IsAtPlace boxes place box → IsAtPlace figures place figure → IsRound box figure

-- The boxes at two places have a common point.
pub record MeetAt (boxes : List Window) (one other : ℕ) : Type 0 where
  pub box : Window
  pub beside : Window
  pub box_is : IsAtPlace boxes one box
  pub beside_is : IsAtPlace boxes other beside
  pub common : HasCommonPoint box beside

-- Each place whose box has a point in common with the box at a given place is among these places.
abbrev pub HoldsNear : List Window → ℕ → List ℕ → Type 0
HoldsNear boxes place near = (other : ℕ) → MeetAt boxes other place → Contains near other
