-- No hole so far leaves the shell.
use Rattle.geom_valid.proofs.RingLists.{NoneBefore}
use Rattle.valid_laws.specs.Entering.{LeavesShell}
use Rattle.geom_valid.proofs.ring_set.RingSet.has_hole_outside.Given as goal

abbrev pub invariant-loop-hole : goal.invariant-loop-hole
invariant-loop-hole l = NoneBefore (LeavesShell l.self.shell) l.hole-items l.hole-index
