-- Where a started side of sources over memory stands.
use Rattle.std.specs.Prelude.{ℕ, ◌<◌, ◌≤◌, Bool, false, List, [], length, drop, Option, None, Some, ⊤, slice_index_or}
use Rattle.geosop_io.specs.declared.mem_inputs.Cursor.{Cursor}

-- The bytes of the pair at a place.
abbrev pub bytes_at : List (List ℕ × List ℕ) → ℕ → List ℕ
bytes_at pairs place = (slice_index_or pairs place ([], [])).1

-- The bytes not yet read, where the side was started.
abbrev pub left_at : List (List ℕ × List ℕ) → Option Cursor → Option (List ℕ)
left_at pairs None = None
left_at pairs (Some cursor) = Some (drop cursor.at (bytes_at pairs cursor.place))

-- How many bytes were read, where the side was started.
abbrev pub given_at : Option Cursor → ℕ
given_at None = 0
given_at (Some cursor) = cursor.at

-- Whether the end was met, where the side was started.
abbrev pub ended_at : Option Cursor → Bool
ended_at None = false
ended_at (Some cursor) = cursor.ended

-- The side stands in the bytes of a pair, or wasn't started.
abbrev pub IsWithin : List (List ℕ × List ℕ) → Option Cursor → Type 0
IsWithin pairs None = ⊤
IsWithin pairs (Some cursor) = (cursor.place < length pairs) × (cursor.at ≤ length (bytes_at pairs cursor.place))
