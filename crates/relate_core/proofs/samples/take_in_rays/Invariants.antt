-- The samples along the rays before have been taken in.
use Rattle.im_matrix.specs.declared.Dim.TheVariants.{One}
use Rattle.relate_core.proofs.Contributions.{IsAlongRay}
use Rattle.relate_core.proofs.Visits.{AreTaken}
use Rattle.relate_core.proofs.samples.take_in_rays.Given as goal

abbrev pub invariant-loop-i : goal.invariant-loop-i
invariant-loop-i l = AreTaken (IsAlongRay l.fan.rays) One l.at_a l.at_b l.fan.sections l.i l.fn.progress l.progress
