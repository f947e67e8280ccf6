-- The figures so far are those of the bytes up to the place.
use Rattle.std.proofs.Common.{◌-◌, length}
use Rattle.geosop_run.proofs.SourceSteps.{AreReadTo}
use Rattle.geosop_run.proofs.figures.admit_figures.Given as goal

abbrev pub invariant-loop-figures : goal.invariant-loop-figures
invariant-loop-figures l = AreReadTo l.scale.digits l.bytes l.figures l.at

abbrev pub decreases-loop-figures : goal.decreases-loop-figures
decreases-loop-figures l = length l.bytes - l.at
