use Rattle.std.proofs.Common.{◌-◌}
use Rattle.y_index.proofs.stabbing.+stab_part.Given as goal

abbrev pub decreases-stab_part : goal.decreases-stab_part
decreases-stab_part g l = l.to - l.from
