-- The distinct lines are among all, and the lines so far among them.
use Rattle.std.proofs.Common.{take}
use Rattle.line_summary.proofs.Distinct.{AreDistinctSoFar}
use Rattle.line_summary.proofs.lines.distinct_of.Given as goal

abbrev pub invariant-loop-line : goal.invariant-loop-line
invariant-loop-line l = AreDistinctSoFar (λ line. line.items) l.lines (take l.line-index l.lines) l.distinct.keys
