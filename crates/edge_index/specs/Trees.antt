-- A tree of boxes, kept as a list of rows: first the inner rows, then the leaves.
use Rattle.std.specs.Prelude.{◌≡◌, ℕ, ◌+◌, ◌-◌, ◌*◌, ◌/◌, ◌<◌, ◌≤◌, ◌⊎◌, Bool, ◌&&◌, List, [], length, take, slice_get, Some, All, Contains}
use Rattle.std.specs.Prelude.{count_by, int_le}
use Rattle.std.specs.Int.{int_max, int_min}
use Rattle.std.specs.List.Sorted.{IsStrictlyIncreasing}
use Rattle.plane_laws.specs.Plane.{Point}
use Rattle.plane_exact.specs.Windows.{IsInWindow, IsLeastWindow, HasCommonPoint}
use Rattle.plane_exact.specs.declared.window.Window.{Window}
use Rattle.edge_index.specs.declared.boxes.BoxRow.{BoxRow}

-- A row is the one at a place of the list.
abbrev pub IsRowAt : List BoxRow → ℕ → BoxRow → Type 0
IsRowAt rows place row = slice_get rows place ≡ Some row

-- A point is in one of two boxes.
abbrev pub IsInEither : Window → Window → Point → Type 0
IsInEither box other p = IsInWindow box p ⊎ IsInWindow other p

-- A tree with so many leaves. The rows before the leaves are inner, one less than there are leaves. Row i has the children
-- 2 * i + 1 and 2 * i + 2, and its window is the least box that holds the windows of both. The items of the leaves are different.
pub record IsTreeOf (leaves : ℕ) (rows : List BoxRow) : Type 0 where
  pub some : 1 ≤ leaves
  pub most : leaves ≤ 1048576
  pub count : length rows ≡ 2 * leaves - 1
  pub least :
      (place : ℕ) (row left right : BoxRow) → place < leaves - 1 → IsRowAt rows place row → IsRowAt rows (2 * place + 1) left
      → IsRowAt rows (2 * place + 2) right → IsLeastWindow (IsInEither left.window right.window) row.window
  pub different :
      (place other : ℕ) (row twin : BoxRow) → leaves - 1 ≤ place → leaves - 1 ≤ other → IsRowAt rows place row → IsRowAt rows other twin
      → row.item ≡ twin.item → place ≡ other

-- A list of rows without any row, or with a tree of 1 to 1,048,576 leaves.
abbrev pub IsBoxTree : List BoxRow → Type 0
IsBoxTree rows = (rows ≡ []) ⊎ ((leaves : ℕ) × IsTreeOf leaves rows)

-- How many rows of a tree are inner: half of all rows, rounded down.
abbrev pub inner_count : List BoxRow → ℕ
inner_count rows = length rows / 2

-- Two boxes have a common point, computed: the greater low side isn't beyond the lesser high side, across and above.
abbrev pub have_common_point : Window → Window → Bool
have_common_point box other =
    int_le (int_max box.low_x other.low_x) (int_min box.high_x other.high_x) && int_le (int_max box.low_y other.low_y)
    (int_min box.high_y other.high_y)

-- How many inner rows have a window that meets w.
abbrev pub inner_meeting : Window → List BoxRow → ℕ
inner_meeting w rows = count_by (λ (row : BoxRow). have_common_point row.window w) (take (inner_count rows) rows)

-- The item of a leaf whose window meets w.
pub record IsItemIn (w : Window) (rows : List BoxRow) (item : ℕ) : Type 0 where
  pub place : ℕ
  pub row : BoxRow
  pub is_leaf : inner_count rows ≤ place
  pub is_row : IsRowAt rows place row
  pub is_item : row.item ≡ item
  pub common : HasCommonPoint row.window w

-- Exactly the items of the leaves whose windows meet w, ascending.
pub record AreItemsIn (w : Window) (rows : List BoxRow) (items : List ℕ) : Type 0 where
  pub ascending : IsStrictlyIncreasing items
  pub meet : All (IsItemIn w rows) items
  pub whole : (item : ℕ) → IsItemIn w rows item → Contains items item
