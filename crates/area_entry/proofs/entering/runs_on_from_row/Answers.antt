use Rattle.std.proofs.Common.{sym, ◌∙◌, subst}
use Rattle.std.proofs.lemmas.Result.{IfOk-weaker}
use Rattle.point_set.specs.declared.edge.Edge.{Edge}
use Rattle.figure_laws.proofs.Lists.Places.{some_same}
use Rattle.area_entry.specs.Entries.{RunsOnFrom}
use Rattle.area_entry.proofs.entering.runs_on_from_row.Goals as goal

pub returns : goal.returns
returns c =
    let e = c.args.edge.now.seg in
    let place = c.args.place in
    record {
      runs =
          IfOk-weaker c.runs_on_from.result _ _
          (λ b decides area clean are_rows unshared.
          let test = decides area clean are_rows unshared place c.at.ensures.row in (
            λ t. record { row = c.at.result.now; row_is = c.at.ensures.row; from = test.0 t },
            λ r.
                test.1 (subst (λ (row : Edge). RunsOnFrom e row.seg area c.args.part) (some_same (sym r.row_is ∙ c.at.ensures.row))
                r.from),
          ))
          c.runs_on_from.ensures.runs;
    }
