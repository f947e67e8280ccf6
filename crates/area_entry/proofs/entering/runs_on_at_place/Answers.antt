use Rattle.std.proofs.Common.{sym, ◌∙◌, subst}
use Rattle.std.proofs.lemmas.Result.{IfOk-weaker}
use Rattle.point_set.specs.declared.edge.Edge.{Edge}
use Rattle.figure_laws.proofs.Lists.Places.{all_at, some_same}
use Rattle.area_entry.specs.Entries.{IsUnshared, RunsOnFrom}
use Rattle.area_entry.proofs.entering.runs_on_at_place.Goals as goal

pub returns : goal.returns
returns c =
    let other = c.args.row.now in
    let own = c.at.result.now in
    record {
      runs =
          IfOk-weaker c.runs_on_from.result _ _
          (λ b decides area clean are_rows unshared at is.
          let free = all_at (λ row. IsUnshared area row.seg) c.args.ring.now c.args.place own unshared c.at.ensures.row in
          let test = decides area clean are_rows free at is in (
            λ t. record { row = own; row_is = c.at.ensures.row; from = test.0 t },
            λ r.
                test.1 (subst (λ (row : Edge). RunsOnFrom row.seg other.seg area c.args.part) (some_same (sym r.row_is ∙ c.at.ensures.row))
                r.from),
          ))
          c.runs_on_from.ensures.runs;
    }
