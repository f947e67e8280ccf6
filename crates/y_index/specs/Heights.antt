-- Which rows hold the height of a point.
use Rattle.std.specs.Prelude.{ℕ, ◌*ℤ◌, Bool, ◌&&◌, List, map, int_le}
use Rattle.std.specs.List.{filter}
use Rattle.plane_laws.specs.Plane.{Point}
use Rattle.y_index.specs.declared.rows.Span.{Span}
use Rattle.y_index.specs.declared.rows.SpanRow.{SpanRow}
use Rattle.y_index.specs.Trees.{span_of}

-- Whether a span holds the height of a point: its low is at most the point's y, and its high at least.
abbrev pub holds_height : Point → Span → Bool
holds_height p span = int_le (span.low *ℤ p.w) p.y && int_le p.y (span.high *ℤ p.w)

-- The rows that hold the height of a point, in order.
abbrev pub rows_at : Point → List SpanRow → List SpanRow
rows_at p rows = filter (λ row. holds_height p (span_of row)) rows

-- The items of the rows that hold the height of a point, in the order of the rows.
abbrev pub items_at : Point → List SpanRow → List ℕ
items_at p rows = map (λ row. row.item) (rows_at p rows)
