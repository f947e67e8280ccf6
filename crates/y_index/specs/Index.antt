-- An index as its rows.
use Rattle.std.specs.Prelude.{List, map}
use Rattle.y_index.specs.Rows.{row_of}
use Rattle.y_index.specs.declared.index.YIndex.{YIndex}
use Rattle.y_index.specs.declared.rows.SpanRow.{SpanRow}

-- The rows of an index.
abbrev pub rows_of : YIndex → List SpanRow
rows_of index = map row_of index.rows.items
