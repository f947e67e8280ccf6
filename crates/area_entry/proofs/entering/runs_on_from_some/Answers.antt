use Rattle.area_entry.specs.Entries.{RunsOnFromRow}
use Rattle.area_entry.proofs.Loops.{some_found, none_found}
use Rattle.area_entry.proofs.entering.runs_on_from_some.Goals as goal

pub returns-then-branch : goal.returns-then-branch
returns-then-branch c = record {
  runs = λ area clean are_rows unshared.
      some_found c.args.places.now c.as_slice-place-items.ensures.items c.loop-place.place-index _ c.loop-place-test.true
      (RunsOnFromRow c.args.edge.now.seg c.args.rows.now area c.args.part) c.in_ok-runs_on_from_row.field-0
      (λ _. c.in_ok-runs_on_from_row.ensures.runs area clean are_rows unshared) c.if-branch.true;
}

pub loop-place-preserved : goal.loop-place-preserved
loop-place-preserved c = λ area clean are_rows unshared.
    none_found c.args.places.now c.as_slice-place-items.ensures.items c.loop-place.place-index _ c.loop-place-test.true
    (RunsOnFromRow c.args.edge.now.seg c.args.rows.now area c.args.part) c.in_ok-runs_on_from_row.field-0
    (λ _. c.in_ok-runs_on_from_row.ensures.runs area clean are_rows unshared) c.if-branch.false
    (c.loop-place.invariant area clean are_rows unshared)
