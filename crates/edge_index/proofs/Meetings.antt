-- Boxes that meet, and what a walk sees of a tree of boxes.
use Rattle.std.proofs.Common.{◌≡◌, ℕ, ◌+◌, ◌-◌, ◌*◌, ◌<◌, inl, inr, List, length, Decides, sym, ◌∙◌, arith}
use Rattle.std.specs.Prelude.{slice_index_or}
use Rattle.std.specs.Int.{int_max, int_min}
use Rattle.std.proofs.lemmas.Bool.{false_from_ne_true, false≢true}
use Rattle.std.proofs.lemmas.Bool.Decides.{Decides-and}
use Rattle.std.proofs.lemmas.Option.{slice_get-get_or}
use Rattle.plane_exact.specs.Windows.{IsLeastWindow, HasCommonPoint}
use Rattle.plane_exact.specs.declared.window.Window.{Window}
use Rattle.plane_exact.proofs.Laws.{common_point, low_at_most_high}
use Rattle.plane_laws.proofs.Segments.On.{Decides-int_le}
use Rattle.edge_index.specs.declared.boxes.BoxRow.{BoxRow}
use Rattle.edge_index.specs.Rows.{no_window}
use Rattle.edge_index.specs.Trees.{IsInEither, IsTreeOf, IsRowAt, inner_count, have_common_point}
use Rattle.edge_index.proofs.Visits.{View, IsPruned}

-- the computed test answers true exactly where there is a common point
pub Decides-common : (box other : Window) → Decides (have_common_point box other) (HasCommonPoint box other)
Decides-common box other =
    let across = int_max box.low_x other.low_x in
    let both = Decides-and _ _ (Decides-int_le (int_max box.low_x other.low_x) (int_min box.high_x other.high_x))
    (Decides-int_le (int_max box.low_y other.low_y) (int_min box.high_y other.high_y)) in
    (λ e. let h = both.0 e in common_point box other h.0 h.1, λ h. both.1 (low_at_most_high box other h))

-- the row at a place, and a row of the origin where there is none
abbrev pub row_in : List BoxRow → ℕ → BoxRow
row_in rows place = slice_index_or rows place (record { window = no_window; item = 0 })

pub is_row_in : (rows : List BoxRow) (place : ℕ) → place < length rows → IsRowAt rows place (row_in rows place)
is_row_in rows place h = slice_get-get_or rows place _ h

-- what a walk sees of rows, asked for the window w
abbrev pub view_of : Window → List BoxRow → View
view_of w rows =
    record {
      inner = inner_count rows;
      meets = λ (place : ℕ). have_common_point (row_in rows place).window w;
      item = λ
          (place : ℕ). (row_in rows place).item;
    }

-- one row less than twice the leaves
pub inner_leaves :
    (leaves : ℕ) (rows : List BoxRow) → IsTreeOf leaves rows → (inner_count rows ≡ leaves - 1) × (length rows ≡ 2 * inner_count rows + 1)
inner_leaves leaves rows tree = (omega (arith, tree.count, tree.some), omega (arith, tree.count, tree.some))

-- a box that holds two others meets what one of these meets
pub common_up :
    (w outer left right : Window) → IsLeastWindow (IsInEither left right) outer
    → (HasCommonPoint left w → HasCommonPoint outer w) × (HasCommonPoint right w → HasCommonPoint outer w)
common_up w outer left right least = (
  λ h. record { point = h.point; here = least.holds h.point (inl h.here); there = h.there },
  λ h. record { point = h.point; here = least.holds h.point (inr h.here); there = h.there },
)

-- where an inner row doesn't meet w, neither do its children
pub pruned_tree : (w : Window) (leaves : ℕ) (rows : List BoxRow) → IsTreeOf leaves rows → IsPruned (view_of w rows)
pruned_tree w leaves rows tree place below out =
    let count = inner_leaves leaves rows tree in
    let row = row_in rows place in
    let first = row_in rows (2 * place + 1) in
    let second = row_in rows (2 * place + 2) in
    let least = tree.least place row first second (omega arith) (is_row_in rows place (omega arith))
    (is_row_in rows (2 * place + 1) (omega arith)) (is_row_in rows (2 * place + 2) (omega arith)) in
    let up = common_up w row.window first.window second.window least in
    let never = λ (h : HasCommonPoint row.window w). false≢true (sym out ∙ (Decides-common row.window w).1 h) in (
      false_from_ne_true _ (λ e. never (up.0 ((Decides-common first.window w).0 e))),
      false_from_ne_true _ (λ e. never (up.1 ((Decides-common second.window w).0 e))),
    )
