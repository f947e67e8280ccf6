use Rattle.std.proofs.lemmas.Result.{IfOk-weaker}
use Rattle.area_entry.proofs.Entries.{by_ring_places}
use Rattle.area_entry.proofs.entering.some_runs_on_from.Goals as goal

pub returns : goal.returns
returns c = record {
  runs =
      IfOk-weaker c.some_near_runs_on_from.result _ _
      (λ b decides area clean are_rows unshared at is.
      by_ring_places c.args.ring.now area c.args.part c.args.row.now c.in_ok-places.places c.in_ok-places.ensures.near b
      (decides area clean are_rows unshared at is))
      c.some_near_runs_on_from.ensures.runs;
}
