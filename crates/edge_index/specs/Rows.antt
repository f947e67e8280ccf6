-- The rows of an index, from what it keeps: its segments, the places of its segments in the order of its leaves, and the windows
-- of those inner rows that have an inner child. What the other rows have follows from the segments.
use Rattle.std.specs.Prelude.{if◌then◌else◌, ◌≡◌, ℕ, ◌+◌, ◌-◌, ◌*◌, ◌/◌, ◌<◌, ◌≤◌, pos, nat_lt, List, length, map, slice_index}
use Rattle.std.specs.Prelude.{slice_index_or, IsPermutation}
use Rattle.std.specs.Int.{int_max, int_min}
use Rattle.std.specs.List.{range_with_len}
use Rattle.plane_exact.specs.Windows.{join_boxes}
use Rattle.plane_exact.specs.declared.point.Seg.{Seg}
use Rattle.plane_exact.specs.declared.window.Window.{Window}
use Rattle.edge_index.specs.declared.boxes.BoxRow.{BoxRow}

-- The box of the lesser and the greater coordinates of a segment's ends.
abbrev pub window_of : Seg → Window
window_of seg =
    record {
      low_x = int_min seg.a.x seg.b.x;
      low_y = int_min seg.a.y seg.b.y;
      high_x = int_max seg.a.x seg.b.x;
      high_y = int_max seg.a.y seg.b.y;
    }

-- The segment from the origin to itself, and its window, stand where a list is read past its end.
abbrev pub no_segment : Seg
no_segment = record { a = record { x = pos 0; y = pos 0 }; b = record { x = pos 0; y = pos 0 } }

abbrev pub no_window : Window
no_window = record { low_x = pos 0; low_y = pos 0; high_x = pos 0; high_y = pos 0 }

-- The window of the segment of a leaf; the first leaf is leaf 0.
abbrev pub leaf_window : List Seg → List ℕ → ℕ → Window
leaf_window segs leaves leaf = window_of (slice_index_or segs (slice_index leaves leaf) no_segment)

-- The window of the row at a place.
abbrev pub window_at : List Seg → List ℕ → List Window → ℕ → Window
window_at segs leaves inner place =
    if nat_lt place (length inner) then slice_index_or inner place no_window
    else (if nat_lt (place + 1) (length leaves)
    then join_boxes (leaf_window segs leaves (2 * place + 2 - length leaves)) (leaf_window segs leaves (2 * place + 3 - length leaves))
    else leaf_window segs leaves (place + 1 - length leaves))

-- The item of the row at a place: that of its leaf, and 0 for an inner row.
abbrev pub item_at : List ℕ → ℕ → ℕ
item_at leaves place = if nat_lt (place + 1) (length leaves) then 0 else slice_index leaves (place + 1 - length leaves)

abbrev pub row_at : List Seg → List ℕ → List Window → ℕ → BoxRow
row_at segs leaves inner place = record { window = window_at segs leaves inner place; item = item_at leaves place }

-- All rows.
abbrev pub rows_of : List Seg → List ℕ → List Window → List BoxRow
rows_of segs leaves inner = map (row_at segs leaves inner) (range_with_len 0 (2 * length leaves - 1))

-- The leaves are the places of all segments, each once.
abbrev pub AreAllPlaces : List Seg → List ℕ → Type 0
AreAllPlaces segs leaves = IsPermutation (range_with_len 0 (length segs)) leaves

-- A window is kept for each inner row that has an inner child, and it is joined from the windows of its children.
pub record AreJoined (segs : List Seg) (leaves : List ℕ) (inner : List Window) : Type 0 where
  pub count : length inner ≡ (length leaves - 1) / 2
  pub each :
      (place : ℕ) → place < length inner
      → slice_index_or inner place no_window ≡ join_boxes (window_at segs leaves inner (2 * place + 1))
      (window_at segs leaves inner (2 * place + 2))

-- What each index keeps.
pub record IsIndex (segs : List Seg) (leaves : List ℕ) (inner : List Window) : Type 0 where
  pub few : length segs ≤ 1048576
  pub places : AreAllPlaces segs leaves
  pub boxes : AreJoined segs leaves inner
