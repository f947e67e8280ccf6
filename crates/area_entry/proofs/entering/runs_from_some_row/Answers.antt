use Rattle.std.proofs.Common.{◌∙◌}
use Rattle.area_entry.specs.Entries.{SomeRunsOnFrom}
use Rattle.area_entry.proofs.Loops.{some_found, none_found}
use Rattle.area_entry.proofs.entering.runs_from_some_row.Goals as goal

pub returns-then-branch : goal.returns-then-branch
returns-then-branch c = record {
  runs = λ area clean are_rows unshared.
      some_found c.args.rows.now (c.as_slice-row-items.ensures.items ∙ c.rows.ensures.rows) c.loop-row.row-index _ c.loop-row-test.true
      (SomeRunsOnFrom c.args.ring.now area c.args.part) c.in_ok-some_runs_on_from.field-0
      (λ at. c.in_ok-some_runs_on_from.ensures.runs area clean are_rows unshared c.loop-row.row-index at) c.if-branch.true;
}

pub loop-row-preserved : goal.loop-row-preserved
loop-row-preserved c = λ area clean are_rows unshared.
    none_found c.args.rows.now (c.as_slice-row-items.ensures.items ∙ c.rows.ensures.rows) c.loop-row.row-index _ c.loop-row-test.true
    (SomeRunsOnFrom c.args.ring.now area c.args.part) c.in_ok-some_runs_on_from.field-0
    (λ at. c.in_ok-some_runs_on_from.ensures.runs area clean are_rows unshared c.loop-row.row-index at) c.if-branch.false
    (c.loop-row.invariant area clean are_rows unshared)
