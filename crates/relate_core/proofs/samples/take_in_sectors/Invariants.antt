-- The samples in the sectors before have been taken in.
use Rattle.im_matrix.specs.declared.Dim.TheVariants.{Two}
use Rattle.relate_core.proofs.Contributions.{IsWithinSector}
use Rattle.relate_core.proofs.Visits.{AreTaken}
use Rattle.relate_core.proofs.samples.take_in_sectors.Given as goal

abbrev pub invariant-loop-i : goal.invariant-loop-i
invariant-loop-i l = AreTaken (IsWithinSector l.fan.rays) Two l.at_a l.at_b l.fan.sections l.i l.fn.progress l.progress
