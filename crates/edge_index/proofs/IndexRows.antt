-- The rows of an index are a tree of boxes with a leaf for each segment.
use Rattle.std.proofs.Common.{◌≡◌, ◌≢◌, ℕ, zero, suc, ◌+◌, ◌-◌, ◌*◌, ◌<◌, ◌≤◌, ◌⊎◌, inl, inr, List, length, get_or, refl, sym, ◌∙◌, ap, ap₂}
use Rattle.std.proofs.Common.{subst, subst₂, arith}
use Rattle.std.specs.Prelude.{slice_get, slice_index, slice_index_or, Some, All}
use Rattle.std.specs.List.{AllPairs}
use Rattle.std.proofs.lemmas.Bool.{cases_lt, cond_above}
use Rattle.std.proofs.lemmas.List.FromFn.{length-range_with_len, length-map-range_with_len, get_or-map-range_with_len}
use Rattle.std.proofs.lemmas.List.{get_or_default, nil_from_length}
use Rattle.std.proofs.lemmas.List.Sorted.{All-permutation, Contains-permutation, length_permutation}
use Rattle.std.proofs.lemmas.Option.{slice_get-get_or, slice_get_within, get_or_from_slice_get}
use Rattle.plane_exact.specs.Windows.{IsLeastWindow}
use Rattle.plane_exact.specs.declared.point.Seg.{Seg}
use Rattle.plane_exact.specs.declared.window.Window.{Window}
use Rattle.plane_exact.proofs.Laws.{least_of_ends}
use Rattle.edge_index.specs.declared.boxes.BoxRow.{BoxRow}
use Rattle.plane_exact.specs.Windows.{join_boxes}
use Rattle.edge_index.specs.Rows.{window_of, no_segment, leaf_window, window_at, item_at, row_at, rows_of, AreAllPlaces, IsIndex}
use Rattle.edge_index.specs.Segments.{IsWindowOf, IsLeafOf, SomeLeaf, AreLeavesOf}
use Rattle.edge_index.specs.Trees.{IsInEither, IsRowAt, IsTreeOf, IsBoxTree, inner_count}
use Rattle.edge_index.proofs.Indexes.{window_kept, window_joined, window_leaf}
use Rattle.edge_index.proofs.LeastBoxes.{IsProper, proper_of, proper_joined, least_joined}
use Rattle.edge_index.proofs.Lists.{AllPairs-range, AllPairs-permutation, Contains-range, All-range}

-- the places of all segments are below their number, and there are as many
pub places_within : (segs : List Seg) (leaves : List ℕ) → AreAllPlaces segs leaves → All (λ (place : ℕ). place < length segs) leaves
places_within segs leaves all = All-permutation (λ (place : ℕ). place < length segs) _ leaves all (All-range (length segs))

pub places_count : (segs : List Seg) (leaves : List ℕ) → AreAllPlaces segs leaves → length leaves ≡ length segs
places_count segs leaves all = length_permutation _ leaves all ∙ length-range_with_len 0 (length segs)

-- equal numbers of a list of different ones are at one place
same_place :
    (xs : List ℕ) → AllPairs (λ (x y : ℕ). x ≢ y) xs → (i j : ℕ) → i < length xs → j < length xs → get_or xs i 0 ≡ get_or xs j 0 → i ≡ j
same_place xs pairs i j h k same = by_order (cases_lt i j) (cases_lt j i)
  where
    by_order : (i < j) ⊎ (j ≤ i) → (j < i) ⊎ (i ≤ j) → i ≡ j
    by_order (inl below) other = absurd (pairs i j 0 below k same)
    by_order (inr above) (inl below) = absurd (pairs j i 0 below h (sym same))
    by_order (inr above) (inr below) = omega arith

module _ (segs : List Seg) (leaves : List ℕ) (inner : List Window) (index : IsIndex segs leaves inner) where
  -- how many rows there are, and what is at each place
  pub rows_count : length (rows_of segs leaves inner) ≡ 2 * length leaves - 1
  rows_count = length-map-range_with_len (row_at segs leaves inner) 0 (2 * length leaves - 1)

  pub row_there : (place : ℕ) → place < 2 * length leaves - 1 → IsRowAt (rows_of segs leaves inner) place (row_at segs leaves inner place)
  row_there place h =
      slice_get-get_or (rows_of segs leaves inner) place (row_at segs leaves inner place) (omega (arith, rows_count))
      ∙ ap (λ (row : BoxRow). Some row)
      (get_or-map-range_with_len (row_at segs leaves inner) 0 (2 * length leaves - 1) place place (row_at segs leaves inner place) h
      (omega arith))

  pub row_is :
      (place : ℕ) (row : BoxRow) → IsRowAt (rows_of segs leaves inner) place row
      → (place < 2 * length leaves - 1) × (row ≡ row_at segs leaves inner place)
  row_is place row at =
      let within = slice_get_within (rows_of segs leaves inner) place row at in
      let below : place < 2 * length leaves - 1 = omega (arith, rows_count) in (
        below,
        sym (get_or_from_slice_get (rows_of segs leaves inner) place row row at)
            ∙ get_or-map-range_with_len (row_at segs leaves inner) 0 (2 * length leaves - 1) place place row below (omega arith),
      )

  -- an inner row's window is joined from those of its children
  window_children :
      (place : ℕ) → place + 1 < length leaves
      → window_at segs leaves inner place ≡ join_boxes (window_at segs leaves inner (2 * place + 1))
      (window_at segs leaves inner (2 * place + 2))
  window_children place below = by_side (cases_lt place (length inner))
    where
      by_side :
          (place < length inner) ⊎ (length inner ≤ place)
          → window_at segs leaves inner place ≡ join_boxes (window_at segs leaves inner (2 * place + 1))
          (window_at segs leaves inner (2 * place + 2))
      by_side (inl kept) = window_kept segs leaves inner place kept ∙ index.boxes.each place kept
      by_side (inr past) =
          let count = index.boxes.count in
          let first : 2 * place + 2 - length leaves ≡ 2 * place + 1 + 1 - length leaves = omega arith in
          let second : 2 * place + 3 - length leaves ≡ 2 * place + 2 + 1 - length leaves = omega arith in
          let left = ap (leaf_window segs leaves) first
          ∙ sym (window_leaf segs leaves inner (2 * place + 1) (omega arith) (omega (arith, count))) in
          let right = ap (leaf_window segs leaves) second
          ∙ sym (window_leaf segs leaves inner (2 * place + 2) (omega arith) (omega (arith, count))) in
          window_joined segs leaves inner place past below ∙ ap₂ join_boxes left right

  -- each window is proper
  proper_at :
      (room place : ℕ) → 2 * length leaves - 1 ≤ room + place → place < 2 * length leaves - 1 → IsProper (window_at segs leaves inner place)
  proper_at zero place h within = absurd (omega arith)
  proper_at (suc room) place h within = by_side (cases_lt (place + 1) (length leaves))
      (λ (below : place + 1 < length leaves). proper_at room (2 * place + 1) (omega arith) (omega arith))
      (λ (below : place + 1 < length leaves). proper_at room (2 * place + 2) (omega arith) (omega arith))
    where
      by_side :
          (place + 1 < length leaves) ⊎ (length leaves ≤ place + 1)
          → (place + 1 < length leaves → IsProper (window_at segs leaves inner (2 * place + 1)))
          → (place + 1 < length leaves → IsProper (window_at segs leaves inner (2 * place + 2)))
          → IsProper (window_at segs leaves inner place)
      by_side (inl below) left right = subst IsProper (sym (window_children place below)) (proper_joined _ _ (left below) (right below))
      by_side (inr leaf) left right =
          subst IsProper (sym (window_leaf segs leaves inner place (omega (arith, index.boxes.count)) leaf))
          (proper_of (slice_index_or segs (slice_index leaves (place + 1 - length leaves)) no_segment))

  pub proper_row : (place : ℕ) → place < 2 * length leaves - 1 → IsProper (window_at segs leaves inner place)
  proper_row place within = proper_at (2 * length leaves - 1) place (omega arith) within

  -- the places of the segments, in the order of the leaves
  leaves_differ : AllPairs (λ (x y : ℕ). x ≢ y) leaves
  leaves_differ = AllPairs-permutation _ leaves index.places (AllPairs-range 0 (length segs))

  -- a leaf's item
  leaf_item : (place : ℕ) → length leaves ≤ place + 1 → item_at leaves place ≡ slice_index leaves (place + 1 - length leaves)
  leaf_item place leaf = sym (cond_above (place + 1) (length leaves) _ _ _ leaf refl)

  -- the window of an inner row is the least one that holds those of its children
  least_row :
      (place : ℕ) (row left right : BoxRow) → place < length leaves - 1 → IsRowAt (rows_of segs leaves inner) place row
      → IsRowAt (rows_of segs leaves inner) (2 * place + 1) left → IsRowAt (rows_of segs leaves inner) (2 * place + 2) right
      → IsLeastWindow (IsInEither left.window right.window) row.window
  least_row place row left right below here first second =
      let window = λ (r : BoxRow). r.window in
      let one = window_at segs leaves inner (2 * place + 1) in
      let other = window_at segs leaves inner (2 * place + 2) in
      let outer = ap window (row_is place row here).1 ∙ window_children place (omega arith) in
      let least = least_joined one other (proper_row (2 * place + 1) (omega arith)) (proper_row (2 * place + 2) (omega arith)) in
      subst (λ (box : Window). IsLeastWindow (IsInEither left.window right.window) box) (sym outer)
      (subst₂ (λ (l r : Window). IsLeastWindow (IsInEither l r) (join_boxes one other))
      (sym (ap window (row_is (2 * place + 1) left first).1))
      (sym (ap window (row_is (2 * place + 2) right second).1)) least)

  -- the item of a leaf's row is that of the leaf, below the number of segments
  row_item :
      (place : ℕ) (row : BoxRow) → length leaves - 1 ≤ place → IsRowAt (rows_of segs leaves inner) place row
      → (place + 1 - length leaves < length leaves) × (row.item ≡ slice_index leaves (place + 1 - length leaves))
  row_item place row leaf at =
      let is = row_is place row at in
      (omega (arith, is.0), ap (λ (r : BoxRow). r.item) is.1 ∙ leaf_item place (omega (arith, is.0)))

  -- the tree
  index_tree : 0 < length leaves → IsTreeOf (length leaves) (rows_of segs leaves inner)
  index_tree some = record {
    some = some;
    most = omega (arith, index.few, places_count segs leaves index.places);
    count = rows_count;
    least = least_row;
    different = λ place other row twin leaf leaf' here there same.
        let one = row_item place row leaf here in
        let two = row_item other twin leaf' there in
        let leaf_same = same_place leaves leaves_differ (place + 1 - length leaves) (other + 1 - length leaves) one.0 two.0
        (sym one.1 ∙ same ∙ two.1) in
        omega (arith, leaf_same, one.0, two.0);
  }

  pub index_box_tree : IsBoxTree (rows_of segs leaves inner)
  index_box_tree = by_count (cases_lt 0 (length leaves))
    where
      by_count : (0 < length leaves) ⊎ (length leaves ≤ 0) → IsBoxTree (rows_of segs leaves inner)
      by_count (inl some) = inr (length leaves, index_tree some)
      by_count (inr none) = inl (nil_from_length (rows_of segs leaves inner) (omega (arith, rows_count)))

  -- where the leaves begin
  leaves_begin : (place : ℕ) → inner_count (rows_of segs leaves inner) ≤ place → length leaves - 1 ≤ place
  leaves_begin place h = omega (arith, rows_count)

  -- a leaf is that of a segment
  leaf_of_segment :
      (place : ℕ) (row : BoxRow) → inner_count (rows_of segs leaves inner) ≤ place → IsRowAt (rows_of segs leaves inner) place row
      → IsLeafOf segs row
  leaf_of_segment place row leaf at =
      let begin = leaves_begin place leaf in
      let is = row_is place row at in
      let item = row_item place row begin at in
      let k = place + 1 - length leaves in
      let seg = slice_index_or segs (slice_index leaves k) no_segment in
      let box = ap (λ (r : BoxRow). r.window) is.1
      ∙ window_leaf segs leaves inner place (omega (arith, index.boxes.count, begin)) (omega (arith, begin, is.0)) in
      record {
        seg = seg;
        seg_is =
            ap (λ (p : ℕ). slice_get segs p) item.1
            ∙ slice_get-get_or segs (slice_index leaves k) no_segment (places_within segs leaves index.places k 0 item.0);
        least = subst (λ (w : Window). IsWindowOf seg w) (sym box) (least_of_ends (window_of seg) seg.a seg.b refl refl refl refl);
      }

  -- a segment has a leaf
  leaf_of_place : (place : ℕ) → place < length segs → SomeLeaf (rows_of segs leaves inner) place
  leaf_of_place place within =
      let among = Contains-permutation _ leaves place index.places (Contains-range (length segs) place within) in
      let leaf = among.0 in
      let there = leaf + length leaves - 1 in
      let back : there + 1 - length leaves ≡ leaf = omega (arith, among.1) in
      record {
        place = there;
        row = row_at segs leaves inner there;
        is_leaf = omega (arith, among.1, rows_count);
        is_row = row_there there (omega (arith, among.1));
        is_item =
            leaf_item there (omega (arith, among.1)) ∙ ap (slice_index leaves) back ∙ get_or_default leaves leaf 0 place among.1 ∙ among.2;
      }

  pub index_leaves : AreLeavesOf segs (rows_of segs leaves inner)
  index_leaves = record { each = leaf_of_segment; whole = leaf_of_place }
