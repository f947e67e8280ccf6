use Rattle.area_entry.specs.Entries.{RunsOnAtPlace}
use Rattle.area_entry.proofs.Loops.{some_found, none_found}
use Rattle.area_entry.proofs.entering.some_near_runs_on_from.Goals as goal

pub returns-then-branch : goal.returns-then-branch
returns-then-branch c = record {
  runs = λ area clean are_rows unshared at is.
      some_found c.args.places.now c.as_slice-place-items.ensures.items c.loop-place.place-index _ c.loop-place-test.true
      (RunsOnAtPlace c.args.ring.now c.args.row.now.seg area c.args.part) c.in_ok-runs_on_at_place.field-0
      (λ _. c.in_ok-runs_on_at_place.ensures.runs area clean are_rows unshared at is) c.if-branch.true;
}

pub loop-place-preserved : goal.loop-place-preserved
loop-place-preserved c = λ area clean are_rows unshared at is.
    none_found c.args.places.now c.as_slice-place-items.ensures.items c.loop-place.place-index _ c.loop-place-test.true
    (RunsOnAtPlace c.args.ring.now c.args.row.now.seg area c.args.part) c.in_ok-runs_on_at_place.field-0
    (λ _. c.in_ok-runs_on_at_place.ensures.runs area clean are_rows unshared at is) c.if-branch.false
    (c.loop-place.invariant area clean are_rows unshared at is)
