-- The list has the places below the box's place of the boxes near the window.
use Rattle.union_locator.specs.Shells.{IsBoxNearAt}
use Rattle.union_locator.proofs.Scans.{ArePlacesBelow}
use Rattle.union_locator.proofs.shells.scan_boxes.Given as goal

abbrev pub invariant-loop-place : goal.invariant-loop-place
invariant-loop-place l = ArePlacesBelow (IsBoxNearAt l.w l.boxes) l.place l.out
