-- The box holds the inner one and the positions so far, and is the least that does.
use Rattle.geom_valid.proofs.WiderBoxes.{IsRoundSoFar}
use Rattle.geom_valid.proofs.boxes.widened.Given as goal

abbrev pub invariant-loop-p : goal.invariant-loop-p
invariant-loop-p l = IsRoundSoFar l.fn.inner l.around l.ring l.p-index
