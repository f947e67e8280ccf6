use Rattle.bound_rule.proofs.LineEnds.{AreEndsSoFar}
use Rattle.bound_rule.proofs.ends.EndCounts.build.Given as goal

abbrev pub invariant-loop-line : goal.invariant-loop-line
invariant-loop-line l = AreEndsSoFar l.v.lines l.line-index l.table
