use Rattle.std.proofs.Common.{◌+◌, List, ◌∙◌, ap, sym, length, subst, arith}
use Rattle.std.specs.Option.{option_copied}
use Rattle.std.specs.Prelude.{slice_get}
use Rattle.figure_laws.proofs.Lists.Places.{read_at}
use Rattle.plane_exact.specs.declared.point.Pt.{Pt}
use Rattle.node_table.specs.declared.entry.Entry.{Entry}
use Rattle.relate_core.specs.NodeSets.{AddsNear, IsAtFirst}
use Rattle.relate_core.proofs.Passes.{start_next, no_start}
use Rattle.relate_core.proofs.Sets.{IsOfBefore, adds_all}
use Rattle.relate_core.proofs.nodes.add_starts.Goals as goal
use Rattle.relate_core.proofs.nodes.add_starts.Goals.{in-Some+in_ok-add_position, in_default}

pub loop-line-preserved : goal.loop-line-preserved
loop-line-preserved c =
    let lines = c.args.lines.now in
    let k = c.loop-line.line-index in
    let old = c.args.nodes.now in
    let line : List Pt = c.line-item.result in
    let items = c.as_slice-line-items.ensures.items in
    let is = read_at c.as_slice-line-items.result.now lines k line items c.loop-line-test.true c.line-item.is in
    let read = sym (ap (λ (xs : List Pt). slice_get xs 0) c.as_slice.ensures.items) ∙ sym c.first.ensures.value in
    elim c.match-first.branch [
      | in-Some+in_ok-add_position w ↦
          subst (λ (t : List Entry). AddsNear c.args.w (IsOfBefore IsAtFirst lines (k + 1)) old t) (sym w.nodes-is)
          (start_next c.args.w lines k line is old c.loop-line.nodes w.add_position.new.nodes w.in-Some.start.now
          (read ∙ ap option_copied w.in-Some.is) w.in_ok-add_position.ensures.nodes c.loop-line.invariant)
      | in_default w ↦
          subst (λ (t : List Entry). AddsNear c.args.w (IsOfBefore IsAtFirst lines (k + 1)) old t) (sym w.nodes-is)
          (no_start c.args.w lines k line is (read ∙ ap option_copied w.in_default.is) old c.loop-line.nodes c.loop-line.invariant)
    ]

pub returns : goal.returns
returns c = record {
  nodes =
      adds_all c.args.w IsAtFirst c.args.lines.now c.loop-line.line-index c.args.nodes.now c.loop-line.nodes
      (let same = ap length c.as_slice-line-items.ensures.items in omega (arith, same, c.loop-line-test.false)) c.loop-line.invariant;
}
