-- The spans so far have their rows.
use Rattle.std.proofs.Common.{◌≡◌, take}
use Rattle.std.specs.Prelude.{map}
use Rattle.std.specs.List.{enumerate_from}
use Rattle.y_index.specs.Rows.{row_of}
use Rattle.y_index.specs.Trees.{placed}
use Rattle.y_index.proofs.build.rows_of_spans.Given as goal

abbrev pub invariant-loop-place : goal.invariant-loop-place
invariant-loop-place l = map placed (map row_of l.rows.items) ≡ enumerate_from 0 (take l.place l.spans)
