-- The box is round the shell and the holes so far.
use Rattle.geom_valid.proofs.WiderBoxes.{IsRoundRings}
use Rattle.geom_valid.proofs.boxes.area_box.Given as goal

abbrev pub invariant-loop-hole : goal.invariant-loop-hole
invariant-loop-hole l = IsRoundRings l.around l.area l.hole-index
