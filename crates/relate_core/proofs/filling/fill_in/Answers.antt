use Rattle.std.proofs.Common.{List, ◌∙◌, refl, subst}
use Rattle.std.specs.Prelude.{Some}
use Rattle.point_set.specs.declared.figure.Figure.{Figure}
use Rattle.near_laws.specs.Near.{IsNearNode}
use Rattle.node_table.specs.Tables.{AreInOrder}
use Rattle.node_table.specs.declared.entry.Entry.{Entry}
use Rattle.relate_core.specs.Tables.{AddsEntryOf}
use Rattle.relate_core.proofs.Filled.{IsFilledBefore, one_filled, all_filled}
use Rattle.relate_core.proofs.filling.fill_in.Goals as goal

pub loop-entry-preserved : goal.loop-entry-preserved
loop-entry-preserved g c =
    let a = g.A.Target.figure c.args.a.now in
    let b = g.B.Target.figure c.args.b.now in
    let i = c.loop-entry.invariant in
    let e = c.in-Some.entry in
    let rest = c.take_next.new.self in
    let done = c.loop-entry.table in
    let new = c.add_at.new.table in
    let first = c.in-Some.ensures.first in
    record {
      figure_a = c.in_ok-add_at.ensures.figure_a ∙ i.figure_a;
      figure_b = c.in_ok-add_at.ensures.figure_b ∙ i.figure_b;
      looks_a = c.in_ok-add_at.ensures.looks_a ∙ i.looks_a;
      looks_b = c.in_ok-add_at.ensures.looks_b ∙ i.looks_b;
      filled =
          one_filled (IsNearNode (Some c.args.w) a b) a b done rest new e
          (subst (λ (t : List Entry). AreInOrder t) first c.in-Some.ensures.in_order)
          (subst (λ (z : Figure). AddsEntryOf a z e.node done new) i.figure_b
          (subst (λ (z : Figure). AddsEntryOf z (g.B.Target.figure c.loop-entry.b) e.node done new) i.figure_a
          c.in_ok-add_at.ensures.added))
          c.in_ok-add_at.ensures.in_order
          (subst (λ (t : List Entry). IsFilledBefore (IsNearNode (Some c.args.w) a b) a b done t) first i.filled);
    }

pub returns-clause-table : goal.returns-clause-table
returns-clause-table g c =
    let a = g.A.Target.figure c.args.a.now in
    let b = g.B.Target.figure c.args.b.now in
    all_filled (IsNearNode (Some c.args.w) a b) a b c.loop-entry.table
    (subst (λ (t : List Entry). IsFilledBefore (IsNearNode (Some c.args.w) a b) a b c.loop-entry.table t) (c.in_default.ensures.none.0 refl)
    c.loop-entry.invariant.filled)
