-- The diagonals of the boxes so far.
use Rattle.std.proofs.Common.{◌≡◌, map, take}
use Rattle.plane_exact.specs.Windows.{diagonal_of}
use Rattle.plane_exact.proofs.window.diagonals_of.Given as goal

abbrev pub invariant-loop-around : goal.invariant-loop-around
invariant-loop-around l = l.segs ≡ map diagonal_of (take l.around-index l.boxes)
