use Rattle.std.proofs.lemmas.Result.{IfOk-weaker}
use Rattle.area_entry.proofs.Entries.{by_rows}
use Rattle.area_entry.proofs.entering.runs_into.Goals as goal

pub returns-else-len : goal.returns-else-len
returns-else-len c = record {
  runs =
      IfOk-weaker c.runs_from_some_row.result _ _
      (λ b decides area clean are_rows unshared.
      by_rows area c.args.rows.now are_rows c.args.part c.args.ring.now b (decides area clean are_rows unshared))
      c.runs_from_some_row.ensures.runs;
}
