-- The boxes of the areas so far.
use Rattle.std.proofs.Common.{take}
use Rattle.union_locator.specs.Shells.{AreShellBoxes}
use Rattle.union_locator.proofs.shells.shells_of.Given as goal

abbrev pub invariant-loop-area : goal.invariant-loop-area
invariant-loop-area l = AreShellBoxes (take l.area-index l.figure.areas) l.boxes
