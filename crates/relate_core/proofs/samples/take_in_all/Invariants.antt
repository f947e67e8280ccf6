-- The samples at the nodes taken out so far have been taken in, and each of these nodes was looked at once.
use Rattle.std.proofs.Common.{◌≡◌, ◌+◌, ◌≤◌, length}
use Rattle.relate_core.proofs.Runs.{HasVisited}
use Rattle.relate_core.proofs.samples.take_in_all.Given as goal

abbrev pub invariant-loop-alloc : goal.invariant-loop-alloc
invariant-loop-alloc g l = record {
  figure_a : g.A.Target.figure l.a ≡ g.A.Target.figure l.fn.a;
  figure_b : g.B.Target.figure l.b ≡ g.B.Target.figure l.fn.b;
  looks_a : g.A.Target.looks l.a + length l.table ≤ g.A.Target.looks l.fn.a + length l.fn.table;
  looks_b : g.B.Target.looks l.b + length l.table ≤ g.B.Target.looks l.fn.b + length l.fn.table;
  visited : HasVisited (g.A.Target.figure l.fn.a) (g.B.Target.figure l.fn.b) l.rule l.fn.table l.table l.fn.progress l.progress;
}

abbrev pub decreases-loop-alloc : goal.decreases-loop-alloc
decreases-loop-alloc g l = length l.table
