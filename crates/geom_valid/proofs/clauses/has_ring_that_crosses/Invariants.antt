-- No hole so far crosses itself.
use Rattle.point_set.specs.Validity.{CrossesItself}
use Rattle.geom_valid.proofs.RingLists.{NoneBefore}
use Rattle.geom_valid.proofs.clauses.has_ring_that_crosses.Given as goal

abbrev pub invariant-loop-hole : goal.invariant-loop-hole
invariant-loop-hole l = NoneBefore CrossesItself l.hole-items l.hole-index
