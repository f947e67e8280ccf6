-- Nothing changes, and both know the same of each cell before the place.
use Rattle.relate_prep.proofs.Comparisons.{AreComparedTo}
use Rattle.relate_prep.proofs.session.compare_each.Given as goal

abbrev pub invariant-loop-place : goal.invariant-loop-place
invariant-loop-place l = AreComparedTo l.fn.cells l.fn.others l.cells l.others l.place
