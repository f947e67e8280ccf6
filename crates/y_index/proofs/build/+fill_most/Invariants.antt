use Rattle.std.proofs.Common.{◌-◌}
use Rattle.y_index.proofs.build.+fill_most.Given as goal

abbrev pub decreases-fill_most : goal.decreases-fill_most
decreases-fill_most l = l.to - l.from
