-- The nodes taken out so far are in the table with their sections.
use Rattle.std.proofs.Common.{◌≡◌, length}
use Rattle.std.specs.Prelude.{Some}
use Rattle.near_laws.specs.Near.{IsNearNode}
use Rattle.relate_core.proofs.Filled.{IsFilledBefore}
use Rattle.relate_core.proofs.filling.fill_in.Given as goal

abbrev pub invariant-loop-entry : goal.invariant-loop-entry
invariant-loop-entry g l = record {
  figure_a : g.A.Target.figure l.a ≡ g.A.Target.figure l.fn.a;
  figure_b : g.B.Target.figure l.b ≡ g.B.Target.figure l.fn.b;
  looks_a : g.A.Target.looks l.a ≡ g.A.Target.looks l.fn.a;
  looks_b : g.B.Target.looks l.b ≡ g.B.Target.looks l.fn.b;
  filled :
      IsFilledBefore (IsNearNode (Some l.fn.w) (g.A.Target.figure l.fn.a) (g.B.Target.figure l.fn.b)) (g.A.Target.figure l.fn.a)
      (g.B.Target.figure l.fn.b) l.table l.nodes;
}

abbrev pub decreases-loop-entry : goal.decreases-loop-entry
decreases-loop-entry g l = length l.nodes
