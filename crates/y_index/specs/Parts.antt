-- A fold over a part of the tree: which of its rows hold the height, and how far the meter rises.
use Rattle.std.specs.Prelude.{ℕ, ◌+◌, ◌*◌, ◌^◌, ◌<◌, ◌≤◌, ℤ, ◌≤ℤ◌, Bool, ◌&&◌, List, map, int_le}
use Rattle.std.specs.List.{All, filter}
use Rattle.y_index.specs.declared.rows.SpanRow.{SpanRow}

-- Whether a row begins at most at one whole height and ends at least at another.
abbrev pub is_between : ℤ → ℤ → SpanRow → Bool
is_between floor ceiling row = int_le row.low floor && int_le ceiling row.high

-- Those rows, in order.
abbrev pub rows_between : ℤ → ℤ → List SpanRow → List SpanRow
rows_between floor ceiling rows = filter (is_between floor ceiling) rows

-- Their items, in the same order.
abbrev pub items_between : ℤ → ℤ → List SpanRow → List ℕ
items_between floor ceiling rows = map (λ row. row.item) (rows_between floor ceiling rows)

-- No row begins above a whole height.
abbrev pub AreLow : ℤ → List SpanRow → Type 0
AreLow floor rows = All (λ row. row.low ≤ℤ floor) rows

-- In a part of the tree with k hits, and b digits enough for the number of its rows, the meter rises by at most 2 * (k + 1) * b.
abbrev pub RisesInPart : ℕ → ℕ → ℕ → ℕ → Type 0
RisesInPart hits count old new = (digits : ℕ) → count < 2 ^ digits → new ≤ old + 2 * (hits + 1) * digits

-- And for a part of which no row begins above the height: by at most 2 * k * b + 1.
abbrev pub RisesInLowPart : ℕ → ℕ → ℕ → ℕ → Type 0
RisesInLowPart hits count old new = (digits : ℕ) → count < 2 ^ digits → new ≤ old + 2 * hits * digits + 1
