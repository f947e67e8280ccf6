use Rattle.std.proofs.Common.{pos, List, ◌∙◌, ap}
use Rattle.std.specs.Prelude.{map}
use Rattle.y_index.proofs.Enumerated.{rows_more}
use Rattle.y_index.specs.Rows.{row_of}
use Rattle.y_index.specs.Trees.{placed}
use Rattle.y_index.specs.declared.row.Row.{Row}
use Rattle.y_index.proofs.build.rows_of_spans.Goals as goal

pub loop-place-preserved : goal.loop-place-preserved
loop-place-preserved c =
    ap (λ (rows : List Row). map placed (map row_of rows)) c.in_ok-push.ensures.items
    ∙ rows_more c.loop-place.rows.items c.row_at.result c.args.spans.now c.loop-place.place (record { low = pos 0; high = pos 0 })
    c.loop-place-test.true c.loop-place.invariant c.row_at.ensures.placed
