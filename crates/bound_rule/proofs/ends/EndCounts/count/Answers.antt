use Rattle.std.proofs.Common.{sym}
use Rattle.bound_rule.proofs.LineEnds.{count-none}
use Rattle.bound_rule.proofs.ends.EndCounts.count.Goals as goal

pub returns-in-None : goal.returns-in-None
returns-in-None c = record { count = sym (count-none c.args.n.now c.in-None.ensures.none c.args.self.now) }
