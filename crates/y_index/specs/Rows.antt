-- Rows as the index keeps them.
use Rattle.std.specs.Prelude.{◌≡◌, ℕ, ◌<◌, ◌≤◌, ℤ, negsuc, ◌≤ℤ◌, ◌↔◌, ◌⊎◌, List, slice_range, slice_index_or}
use Rattle.std.specs.List.{All}
use Rattle.y_index.specs.Trees.{HasMosts}
use Rattle.y_index.specs.declared.row.Row.{Row}
use Rattle.y_index.specs.declared.rows.SpanRow.{SpanRow}

-- A row as callers see it.
abbrev pub row_of : Row → SpanRow
row_of row = record { low = row.low; high = row.high; most = row.most; item = row.item }

-- Rows before a place and from another place on stay.
abbrev pub SameOutside : ℕ → ℕ → List SpanRow → List SpanRow → Type 0
SameOutside from to old new =
    (k : ℕ) (d : SpanRow) → (k < from) ⊎ (to ≤ k) → slice_index_or new k d ≡ slice_index_or old k d

-- A part of the tree is filled in, and has this greatest high: of the numbers from -2^31 on, those that are at least this one
-- are those that no high of the part is above.
pub record IsFilled (from to : ℕ) (rows : List SpanRow) (greatest : ℤ) : Type 0 where
  pub mosts : HasMosts from to rows
  pub least : negsuc 2147483647 ≤ℤ greatest
  pub bound : (z : ℤ) → negsuc 2147483647 ≤ℤ z → (greatest ≤ℤ z) ↔ All (λ row. row.high ≤ℤ z) (slice_range rows from to)
