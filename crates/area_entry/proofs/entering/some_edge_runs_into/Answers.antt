use Rattle.std.proofs.Common.{◌∙◌}
use Rattle.figure_laws.proofs.Lists.Places.{all_at}
use Rattle.area_entry.specs.Entries.{IsUnshared, RunsInto}
use Rattle.area_entry.proofs.Loops.{some_found, none_found}
use Rattle.area_entry.proofs.entering.some_edge_runs_into.Goals as goal

pub returns-then-branch : goal.returns-then-branch
returns-then-branch c = record {
  runs = λ area clean are_rows unshared.
      some_found c.args.ring.now (c.as_slice-edge-items.ensures.items ∙ c.rows.ensures.rows) c.loop-edge.edge-index _ c.loop-edge-test.true
      (λ row. RunsInto area c.args.part row.seg) c.in_ok-edge_runs_into.field-0
      (λ at. c.in_ok-edge_runs_into.ensures.runs area clean are_rows
      (all_at (λ row. IsUnshared area row.seg) c.args.ring.now c.loop-edge.edge-index _ unshared at)) c.if-branch.true;
}

pub loop-edge-preserved : goal.loop-edge-preserved
loop-edge-preserved c = λ area clean are_rows unshared.
    none_found c.args.ring.now (c.as_slice-edge-items.ensures.items ∙ c.rows.ensures.rows) c.loop-edge.edge-index _ c.loop-edge-test.true
    (λ row. RunsInto area c.args.part row.seg) c.in_ok-edge_runs_into.field-0
    (λ at. c.in_ok-edge_runs_into.ensures.runs area clean are_rows
    (all_at (λ row. IsUnshared area row.seg) c.args.ring.now c.loop-edge.edge-index _ unshared at)) c.if-branch.false
    (c.loop-edge.invariant area clean are_rows unshared)
