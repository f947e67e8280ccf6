-- A turn of the walk's loop: the row that is looked at, and what may be left of the looks.
use Rattle.std.proofs.Common.{◌≡◌, ℕ, ◌+◌, ◌*◌, ◌<◌, ◌≤◌, inl, inr, Bool, true, false, List, length, take, refl, ◌∙◌, ap, arith}
use Rattle.std.specs.Prelude.{IsTrue, ◌↔◌, Some}
use Rattle.std.proofs.lemmas.Bool.{false_from_ne_true, false≢true}
use Rattle.std.proofs.lemmas.List.{length-take-le}
use Rattle.std.proofs.lemmas.List.Sums.{count_by-le-length}
use Rattle.std.proofs.lemmas.Option.{get_or_from_slice_get}
use Rattle.plane_exact.specs.Windows.{HasCommonPoint}
use Rattle.plane_exact.specs.declared.window.Window.{Window}
use Rattle.edge_index.specs.declared.boxes.BoxRow.{BoxRow}
use Rattle.edge_index.specs.Trees.{IsTreeOf, IsBoxTree, IsRowAt, inner_count, inner_meeting, have_common_point}
use Rattle.edge_index.proofs.Finds.{walk_looks}
use Rattle.edge_index.proofs.Meetings.{Decides-common, row_in, view_of, inner_leaves}
use Rattle.edge_index.proofs.Steps.{IsUnderway, underway_next}

-- rows that aren't none have a tree
pub tree_of : (rows : List BoxRow) → IsBoxTree rows → 0 < length rows → (leaves : ℕ) × IsTreeOf leaves rows
tree_of rows (inl none) some = absurd (omega (arith, ap length none))
tree_of rows (inr tree) some = tree

-- what is known where a row comes next: its place is one of the rows, and there is a look left for it
pub record IsTurn (w : Window) (rows : List BoxRow) (place begin used : ℕ) : Type 0 where
  pub within : place < length rows
  pub few : length rows ≤ 2097151
  pub left : used + 1 ≤ begin + (2 * inner_meeting w rows + 1)
  pub room : used < begin + 2097152

pub turn_of :
    (w : Window) (rows : List BoxRow) → IsBoxTree rows → 0 < length rows → (place : ℕ) (out : List ℕ) (begin used : ℕ)
    → IsUnderway (view_of w rows) (Some place) out begin used → IsTurn w rows place begin used
turn_of w rows box some place out begin used walk =
    let tree = tree_of rows box some in
    let count = inner_leaves tree.0 rows tree.1 in
    let next = underway_next (view_of w rows) place out begin used walk in
    let looks = walk_looks w tree.0 rows tree.1 walk.all walk.total walk.whole in
    let met : inner_meeting w rows ≤ length (take (inner_count rows) rows) = count_by-le-length
    (λ (row : BoxRow). have_common_point row.window w) (take (inner_count rows) rows) in
    let inner = length-take-le (inner_count rows) rows (omega arith) in
    record {
      within = omega (arith, next.0);
      few = omega (arith, tree.1.most, count.0);
      left = omega (arith, next.1);
      room = omega (arith, next.1, tree.1.most, count.0);
    }

-- the test of the row that was looked at is that of the walk's view
pub meets_is :
    (w : Window) (rows : List BoxRow) (place : ℕ) (row : BoxRow) (b : Bool) → IsRowAt rows place row
    → (IsTrue b ↔ HasCommonPoint row.window w) → (view_of w rows).meets place ≡ b
meets_is w rows place row b at common =
    let same : row_in rows place ≡ row = get_or_from_slice_get rows place row _ at in
    ap (λ (r : BoxRow). have_common_point r.window w) same ∙ by_value b common
  where
    by_value : (b : Bool) → (IsTrue b ↔ HasCommonPoint row.window w) → have_common_point row.window w ≡ b
    by_value true h = (Decides-common row.window w).1 (h.0 refl)
    by_value false h = false_from_ne_true _ (λ e. false≢true (h.1 ((Decides-common row.window w).0 e)))

-- and so is the item
pub item_is : (w : Window) (rows : List BoxRow) (place : ℕ) (row : BoxRow) → IsRowAt rows place row → (view_of w rows).item place ≡ row.item
item_is w rows place row at = ap (λ (r : BoxRow). r.item) (get_or_from_slice_get rows place row _ at)
