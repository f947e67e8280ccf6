-- Boxes within boxes, and what they hold.
use Rattle.std.proofs.Common.{ℕ, ◌+◌, ◌≤◌, List, length, arith}
use Rattle.std.proofs.lemmas.List.Elements.{All-cons, All-weaker}
use Rattle.whole_algebra.proofs.Laws.{linear}
use Rattle.plane_exact.specs.declared.point.Pt.{Pt}
use Rattle.plane_exact.specs.declared.window.Window.{Window}
use Rattle.plane_exact.specs.Windows.{IsWithin}
use Rattle.point_set.specs.declared.figure.Area.{Area}
use Rattle.point_set.specs.Validity.{IsAtPlace}
use Rattle.figure_laws.proofs.Lists.Places.{all_at}
use Rattle.geom_valid.specs.Boxes.{IsInBox, IsRoundArea, IsRoundRing}
use Rattle.geom_valid.proofs.RingLists.{AllBefore, all_at_last, all_first, all_on}

-- a box is within itself
pub within_itself : (box : Window) → IsWithin box box
within_itself box =
    record { left = omega (arith, linear); right = omega (arith, linear); bottom = omega (arith, linear); top = omega (arith, linear) }

-- and within a box round a box that it is within
pub within_wider : (inner middle outer : Window) → IsWithin inner middle → IsWithin middle outer → IsWithin inner outer
within_wider inner middle outer h k = record {
  left = omega (arith, linear, h.left, k.left);
  right = omega (arith, linear, h.right, k.right);
  bottom = omega (arith, linear, h.bottom, k.bottom);
  top = omega (arith, linear, h.top, k.top);
}

-- a wider box holds the same positions
pub in_wider : (inner outer : Window) → IsWithin inner outer → (p : Pt) → IsInBox inner p → IsInBox outer p
in_wider inner outer within p h = record {
  left = omega (arith, linear, within.left, h.left);
  right = omega (arith, linear, within.right, h.right);
  bottom = omega (arith, linear, within.bottom, h.bottom);
  top = omega (arith, linear, within.top, h.top);
}

pub round_wider : (inner outer : Window) → IsWithin inner outer → (ring : List Pt) → IsRoundRing inner ring → IsRoundRing outer ring
round_wider inner outer within ring = All-weaker (IsInBox inner) (IsInBox outer) (in_wider inner outer within) ring

-- ---- a box that is widened along a ring
-- round the positions so far, and the least such box
pub record IsRoundSoFar (inner around : Window) (ring : List Pt) (i : ℕ) : Type 0 where
  pub kept : IsWithin inner around
  pub held : AllBefore (IsInBox around) ring i
  pub least : (outer : Window) → IsWithin inner outer → IsRoundRing outer ring → IsWithin around outer

pub round_first : (inner : Window) (ring : List Pt) → IsRoundSoFar inner inner ring 0
round_first inner ring = record { kept = within_itself inner; held = all_first (IsInBox inner) ring; least = λ outer within round. within }

pub round_next : (inner around more : Window) (ring : List Pt) (i : ℕ) (p : Pt) → IsRoundSoFar inner around ring i → IsAtPlace ring i p
    → IsWithin around more → IsInBox more p → ((outer : Window) → IsWithin around outer → IsInBox outer p → IsWithin more outer)
    → IsRoundSoFar inner more ring (i + 1)
round_next inner around more ring i p before is within there least = record {
  kept = within_wider inner around more before.kept within;
  held = all_on (IsInBox around) (IsInBox more) (in_wider around more within) ring i p before.held is there;
  least = λ outer inside round. least outer (before.least outer inside round) (all_at (IsInBox outer) ring i p round is);
}

pub round_last :
    (inner around : Window) (ring : List Pt) (i : ℕ) → length ring ≤ i → IsRoundSoFar inner around ring i → IsRoundRing around ring
round_last inner around ring i past before = all_at_last (IsInBox around) ring i before.held past

-- ---- a box that is widened along the rings of an area
pub record IsRoundRings (around : Window) (area : Area) (i : ℕ) : Type 0 where
  pub shell : IsRoundRing around area.shell
  pub holes : AllBefore (IsRoundRing around) area.holes i

pub rings_first : (around : Window) (area : Area) → IsRoundRing around area.shell → IsRoundRings around area 0
rings_first around area shell = record { shell = shell; holes = all_first (IsRoundRing around) area.holes }

pub rings_next : (around more : Window) (area : Area) (i : ℕ) (hole : List Pt) → IsRoundRings around area i → IsAtPlace area.holes i hole
    → IsWithin around more → IsRoundRing more hole → IsRoundRings more area (i + 1)
rings_next around more area i hole before is within there = record {
  shell = round_wider around more within area.shell before.shell;
  holes = all_on (IsRoundRing around) (IsRoundRing more) (round_wider around more within) area.holes i hole before.holes is there;
}

pub rings_last : (around : Window) (area : Area) (i : ℕ) → length area.holes ≤ i → IsRoundRings around area i → IsRoundArea around area
rings_last around area i past before =
    All-cons (IsRoundRing around) area.shell area.holes before.shell (all_at_last (IsRoundRing around) area.holes i before.holes past)
