-- Rows of spans in order, and the tree in which they stand.
use Rattle.std.specs.Prelude.{◌≡◌, ℕ, ◌+◌, ◌/◌, ◌<◌, ◌≤ℤ◌, ◌<ℤ◌, ℤ, pos, neg_ℤ, List, length, map, Some, slice_get, slice_range}
use Rattle.std.specs.List.{All, enumerate_from}
use Rattle.std.specs.List.Sorted.{IsSorted, IsPermutation}
use Rattle.std.specs.Ordering.{ordering_then, int_cmp, nat_cmp}
use Rattle.std.specs.declared.cmp.Ordering.{Ordering}
use Rattle.plane_exact.specs.Limits.{limit}
use Rattle.y_index.specs.declared.rows.Span.{Span}
use Rattle.y_index.specs.declared.rows.SpanRow.{SpanRow}

-- Rows by low, those of the same low by high, and those of the same span by item.
abbrev pub compare_rows : SpanRow → SpanRow → Ordering
compare_rows a b =
    ordering_then (int_cmp a.low b.low) (ordering_then (int_cmp a.high b.high) (nat_cmp a.item b.item))

-- A part of the tree over the rows from place `from` up to but without place `to`: the rows from place i up to but without
-- place j. All rows are a part. The root of a part that has a row stands at the place (i + j) / 2, rounded down; the rows
-- before it are its left part, and the rows after it its right part.
pub data IsPartOf (from to : ℕ) : ℕ → ℕ → Type 0 where
  whole : IsPartOf from to from to
  left : {i j : ℕ} → IsPartOf from to i j → i < j → IsPartOf from to i ((i + j) / 2)
  right : {i j : ℕ} → IsPartOf from to i j → i < j → IsPartOf from to ((i + j) / 2 + 1) j

-- The greatest high of rows: no high is above it, and not all are below it.
pub record IsGreatestHigh (rows : List SpanRow) (greatest : ℤ) : Type 0 where
  pub above : All (λ row. row.high ≤ℤ greatest) rows
  pub reached : ¬ All (λ row. row.high <ℤ greatest) rows

-- The root of each part has the greatest high of the part as its `most`.
abbrev pub HasMosts : ℕ → ℕ → List SpanRow → Type 0
HasMosts from to rows =
    (i j : ℕ) → IsPartOf from to i j → i < j → (root : SpanRow) → slice_get rows ((i + j) / 2) ≡ Some root →
    IsGreatestHigh (slice_range rows i j) root.most

-- Rows are in order, and each has the greatest high of its subtree.
pub record IsSpanTree (rows : List SpanRow) : Type 0 where
  pub sorted : IsSorted compare_rows rows
  pub mosts : HasMosts 0 (length rows) rows

-- A span has its low at most as high as its high, and both are within the limit on coordinates.
pub record IsSpan (span : Span) : Type 0 where
  pub rising : span.low ≤ℤ span.high
  pub bottom : neg_ℤ (pos limit) ≤ℤ span.low
  pub top : span.high ≤ℤ pos limit

-- The span of a row.
abbrev pub span_of : SpanRow → Span
span_of row = record { low = row.low; high = row.high }

-- A row's item and span.
abbrev pub placed : SpanRow → ℕ × Span
placed row = (row.item, span_of row)

-- The rows are exactly these spans, in some order, each with its place in the list as item.
pub record AreRowsOf (spans : List Span) (rows : List SpanRow) : Type 0 where
  pub all : IsPermutation (enumerate_from 0 spans) (map placed rows)
