use Rattle.std.proofs.lemmas.Result.{IfOk-weaker}
use Rattle.area_entry.proofs.Entries.{by_places}
use Rattle.area_entry.proofs.entering.edge_runs_into.Goals as goal

pub returns : goal.returns
returns c = record {
  runs =
      IfOk-weaker c.runs_on_from_some.result _ _
      (λ b decides area clean are_rows unshared.
      by_places area c.args.rows.now are_rows c.args.part c.args.edge.now.seg c.in_ok-places.places c.in_ok-places.ensures.near b
      (decides area clean are_rows unshared))
      c.runs_on_from_some.ensures.runs;
}
