use Rattle.std.proofs.lemmas.Result.{IfOk-weaker}
use Rattle.plane_exact.specs.NodePoints.{point_at}
use Rattle.seg_cross.proofs.Laws.{overlap_ends_apart, overlap_held}
use Rattle.area_entry.proofs.Entries.{at_meeting, on_row}
use Rattle.area_entry.proofs.RowPlaces.{row_there}
use Rattle.area_entry.proofs.entering.runs_on_from.Goals as goal

pub returns-in-At : goal.returns-in-At
returns-in-At c =
    let e = c.args.edge.now.seg in
    let row = c.args.row.now in
    let v = point_at c.in-At.n in
    let only = c.in-At.ensures.exact in
    record {
      runs =
          IfOk-weaker c.runs_on.result _ _
          (λ b decides area clean are_rows unshared place is.
          at_meeting area c.args.part e row.seg c.in-At.n only b
          (decides area clean are_rows unshared (on_row area c.args.rows.now are_rows place row is v only.common.second)))
          c.runs_on.ensures.runs;
    }

pub returns-in-Apart : goal.returns-in-Apart
returns-in-Apart c = record {
  runs = λ area clean are_rows unshared place is. (
    λ t. cc,
    λ r. absurd (c.in-Apart.ensures.exact r.v (record { first = r.runs.on; second = r.there })),
  );
}

pub returns-in-Along : goal.returns-in-Along
returns-in-Along c =
    let e = c.args.edge.now.seg in
    let f = c.args.row.now.seg in
    let over = c.in-Along.ensures.exact in
    record {
      runs = λ area clean are_rows unshared place is.
          absurd (unshared place f (row_there area c.args.rows.now are_rows place c.args.row.now is)
          (record { a = _; b = _; apart = overlap_ends_apart e f _ _ over; held = overlap_held e f _ _ over }));
    }
