-- What a whole walk over a tree of boxes finds, and how often it looks.
use Rattle.std.proofs.Common.{◌≡◌, ◌≢◌, ℕ, zero, suc, ◌+◌, ◌-◌, ◌*◌, ◌<◌, ◌≤◌, ◌⊎◌, inl, inr, true, cond, List, map, take, refl, sym, ◌∙◌}
use Rattle.std.proofs.Common.{ap, subst, arith}
use Rattle.std.specs.Prelude.{nat_le, count_by, All, Contains}
use Rattle.std.specs.List.{filter, AllPairs, range_with_len}
use Rattle.std.specs.List.Sorted.{IsPermutation, IsSorted}
use Rattle.std.specs.Ordering.{nat_cmp}
use Rattle.std.proofs.lemmas.Bool.{and_parts, and_from, cases_lt}
use Rattle.std.proofs.lemmas.Bool.Decides.{nat_tests}
use Rattle.std.proofs.lemmas.List.{length-take-le, get_or-take}
use Rattle.std.proofs.lemmas.List.Elements.{All-map, All-filter, filter_passes}
use Rattle.std.proofs.lemmas.List.Folds.{fold-map}
use Rattle.std.proofs.lemmas.List.Sums.{sum_by-cons}
use Rattle.std.proofs.lemmas.List.FromFn.{fill_by_all}
use Rattle.std.proofs.lemmas.List.Kept.{AllPairs-filter}
use Rattle.std.proofs.lemmas.List.Sorted.{All-permutation, Contains-permutation, sum_by-IsPermutation}
use Rattle.std.proofs.lemmas.Option.{slice_get_within, get_or_from_slice_get}
use Rattle.plane_exact.specs.Windows.{HasCommonPoint}
use Rattle.plane_exact.specs.declared.window.Window.{Window}
use Rattle.edge_index.specs.declared.boxes.BoxRow.{BoxRow}
use Rattle.edge_index.specs.Rows.{no_window}
use Rattle.edge_index.specs.Trees.{IsTreeOf, IsItemIn, AreItemsIn, inner_count, inner_meeting, have_common_point}
use Rattle.edge_index.proofs.Lists.{Contains-filter, Contains-map, AllPairs-map, AllPairs-range, AllPairs-permutation, Contains-range}
use Rattle.edge_index.proofs.Lists.{All-range, increasing_from_sort}
use Rattle.edge_index.proofs.Meetings.{Decides-common, row_in, is_row_in, view_of, inner_leaves, pruned_tree}
use Rattle.edge_index.proofs.Subtrees.{Subtree, subtree, root_places}
use Rattle.edge_index.proofs.Visits.{View, Visit, is_found, is_opened, visit_items, visit_looks}

-- all places of a tree, in the order of a walk that skips none
pub record AllPlaces (v : View) (places : List ℕ) : Type 0 where
  pub tree : Subtree (2 * v.inner + 1) 0 places
  pub order : IsPermutation (range_with_len 0 (2 * v.inner + 1)) places

all_places : (v : View) → (places : List ℕ) × AllPlaces v places
all_places v =
    let all = subtree (2 * v.inner + 1) (2 * v.inner + 1) 0 (omega arith) in
    (all.0, record { tree = all.1; order = root_places (2 * v.inner + 1) all.0 all.1 })

-- a row that is opened meets, and is inner
opened_meets : (v : View) (place : ℕ) → cond {A = ℕ} (is_opened v place) 1 0 ≤ cond (v.meets place) 1 0
opened_meets v place = grind (arith, nat_tests)

unopened_leaf : (v : View) (place : ℕ) → v.inner ≤ place → cond {A = ℕ} (is_opened v place) 1 0 ≡ 0
unopened_leaf v place past = grind (arith, nat_tests)

-- of a range, no more rows are opened than the inner ones of it meet
opened_count :
    (v : View) (from count : ℕ)
    → count_by (is_opened v) (range_with_len from count) ≤ count_by v.meets (range_with_len from (v.inner - from))
opened_count v from zero = omega arith
opened_count v from (suc count) = by_side (cases_lt from v.inner) (opened_count v (from + 1) count)
  where
    by_side :
        (from < v.inner) ⊎ (v.inner ≤ from)
        → count_by (is_opened v) (range_with_len (from + 1) count) ≤ count_by v.meets (range_with_len (from + 1) (v.inner - (from + 1)))
        → count_by (is_opened v) (range_with_len from (suc count)) ≤ count_by v.meets (range_with_len from (v.inner - from))
    by_side (inl below) rest =
        let one_more : v.inner - from ≡ suc (v.inner - (from + 1)) = omega arith in
        let left = sum_by-cons (λ (p : ℕ). cond {A = ℕ} (is_opened v p) 1 0) from (range_with_len (from + 1) count) in
        let right = sum_by-cons (λ (p : ℕ). cond {A = ℕ} (v.meets p) 1 0) from (range_with_len (from + 1) (v.inner - (from + 1))) in
        rw one_more (omega (arith, left, right, rest, opened_meets v from))
    by_side (inr past) rest =
        let none_left : v.inner - from ≡ 0 = omega arith in
        let none_after : v.inner - (from + 1) ≡ 0 = omega arith in
        let after = subst
        (λ (n : ℕ). count_by (is_opened v) (range_with_len (from + 1) count) ≤ count_by v.meets
        (range_with_len (from + 1) n)) none_after rest in
        let left = sum_by-cons (λ (p : ℕ). cond {A = ℕ} (is_opened v p) 1 0) from (range_with_len (from + 1) count) in
        rw none_left (omega (arith, left, after, unopened_leaf v from past))

module _ (w : Window) (leaves : ℕ) (rows : List BoxRow) (tree : IsTreeOf leaves rows) where
  -- a place that passes is that of a leaf, whose window meets w
  leaf_side : (place : ℕ) → is_found (view_of w rows) place ≡ true → inner_count rows ≤ place
  leaf_side place pass =
      let side = (and_parts (nat_le (inner_count rows) place) (have_common_point (row_in rows place).window w) pass).0 in grind
      (arith, nat_tests)

  found_is_item :
      (place : ℕ) → place < 2 * inner_count rows + 1 → is_found (view_of w rows) place ≡ true → IsItemIn w rows (row_in rows place).item
  found_is_item place within pass =
      let parts = and_parts (nat_le (inner_count rows) place) (have_common_point (row_in rows place).window w) pass in
      let count = inner_leaves leaves rows tree in
      record {
        place = place;
        row = row_in rows place;
        is_leaf = leaf_side place pass;
        is_row = is_row_in rows place (omega arith);
        is_item = refl;
        common = (Decides-common (row_in rows place).window w).0 parts.1;
      }

  -- the place of such a leaf passes
  item_is_found :
      (item : ℕ) → IsItemIn w rows item
      → (place : ℕ) × (place < 2 * inner_count rows + 1) × (is_found (view_of w rows) place ≡ true) × ((row_in rows place).item ≡ item)
  item_is_found item is =
      let count = inner_leaves leaves rows tree in
      let within = slice_get_within rows is.place is.row is.is_row in
      let same : row_in rows is.place ≡ is.row = get_or_from_slice_get rows is.place is.row _ is.is_row in
      let meets = (Decides-common (row_in rows is.place).window w).1
      (subst (λ (row : BoxRow). HasCommonPoint row.window w) (sym same) is.common) in
      (is.place, omega arith, and_from _ _ (grind (arith, nat_tests, is.is_leaf)) meets, ap (λ (row : BoxRow). row.item) same ∙ is.is_item)

  -- leaves with one item are one
  one_place :
      (place other : ℕ) → (place < 2 * inner_count rows + 1) × (is_found (view_of w rows) place ≡ true)
      → (other < 2 * inner_count rows + 1) × (is_found (view_of w rows) other ≡ true) → (row_in rows place).item ≡ (row_in rows other).item
      → place ≡ other
  one_place place other p q same =
      let count = inner_leaves leaves rows tree in
      let here = leaf_side place p.1 in
      let there = leaf_side other q.1 in
      tree.different place other (row_in rows place) (row_in rows other) (omega arith) (omega arith) (is_row_in rows place (omega arith))
      (is_row_in rows other (omega arith)) same

  -- the items of the places that pass, sorted, are exactly those of the leaves that meet w, ascending
  items_sorted :
      (places found sorted : List ℕ) → AllPlaces (view_of w rows) places
      → found ≡ map (λ (place : ℕ). (row_in rows place).item) (filter (is_found (view_of w rows)) places) → IsPermutation found sorted
      → IsSorted nat_cmp sorted → AreItemsIn w rows sorted
  items_sorted places found sorted all is moved up =
      let v = view_of w rows in
      let n = 2 * inner_count rows + 1 in
      let passing = filter (is_found v) places in
      let within = All-filter (is_found v) (λ (p : ℕ). p < n) places (All-permutation (λ (p : ℕ). p < n) _ _ all.order (All-range n)) in
      let pass = filter_passes (is_found v) places in
      let good : All (λ (p : ℕ). (p < n) × (is_found v p ≡ true)) passing = λ k d h. (within k d h, pass k d h) in
      let pairs = AllPairs-filter (λ (x y : ℕ). x ≢ y) (is_found v) places (AllPairs-permutation _ _ all.order (AllPairs-range 0 n)) in
      let different = AllPairs-map (λ (p : ℕ). (p < n) × (is_found v p ≡ true)) v.item one_place passing good pairs in
      let meeting = All-map (IsItemIn w rows) v.item passing (λ k d h. found_is_item _ (within k d h) (pass k d h)) in
      record {
        ascending =
            increasing_from_sort sorted up
            (AllPairs-permutation found sorted moved (subst (λ (xs : List ℕ). AllPairs (λ (x y : ℕ). x ≢ y) xs) (sym is) different));
        meet = All-permutation (IsItemIn w rows) found sorted moved (subst (λ (xs : List ℕ). All (IsItemIn w rows) xs) (sym is) meeting);
        whole = λ item item_in.
            let f = item_is_found item item_in in
            let among = Contains-filter (is_found v) places f.0 (Contains-permutation _ _ f.0 all.order (Contains-range n f.0 f.1)) f.2 in
            let image = subst (λ (x : ℕ). Contains (map v.item passing) x) f.3 (Contains-map v.item passing f.0 among) in
            Contains-permutation found sorted item moved (subst (λ (xs : List ℕ). Contains xs item) (sym is) image);
      }

  -- a look for the root and two for each inner row that meets w
  looks_bounded :
      (places : List ℕ) (looks : ℕ) → AllPlaces (view_of w rows) places → looks ≤ 2 * count_by (is_opened (view_of w rows)) places + 1
      → looks ≤ 2 * inner_meeting w rows + 1
  looks_bounded places looks all h =
      let v = view_of w rows in
      let inner = inner_count rows in
      let count = inner_leaves leaves rows tree in
      let moved = sum_by-IsPermutation (λ (p : ℕ). cond (is_opened v p) 1 0) _ places all.order in
      let few = opened_count v 0 (2 * inner + 1) in
      let default : BoxRow = record { window = no_window; item = 0 } in
      let front : take inner rows ≡ map (row_in rows) (range_with_len 0 inner) = fill_by_all (row_in rows) (take inner rows) inner default
      (length-take-le inner rows (omega arith)) (λ k h. get_or-take inner rows k default h) in
      let test = λ (r : BoxRow). have_common_point r.window w in
      let whole : inner - 0 ≡ inner = omega arith in
      let same : count_by v.meets (range_with_len 0 (inner - 0)) ≡ inner_meeting w rows =
      ap (λ (n : ℕ). count_by v.meets (range_with_len 0 n)) whole
      ∙ sym (ap (count_by test) front
      ∙ fold-map (λ (a : ℕ) (r : BoxRow). a + cond (test r) 1 0) (row_in rows) 0 (range_with_len 0 inner)) in
      omega arith

  -- what a walk has found at its end, sorted
  pub walk_items :
      (found sorted : List ℕ) (looks : ℕ) → Visit (view_of w rows) 0 found looks → IsPermutation found sorted → IsSorted nat_cmp sorted
      → AreItemsIn w rows sorted
  walk_items found sorted looks visit moved up =
      let v = view_of w rows in
      let all = all_places v in
      items_sorted all.0 found sorted all.1 (visit_items v (pruned_tree w leaves rows tree) visit all.1.tree) moved up

  -- how often a walk looks
  pub walk_looks : (found : List ℕ) (looks : ℕ) → Visit (view_of w rows) 0 found looks → looks ≤ 2 * inner_meeting w rows + 1
  walk_looks found looks visit =
      let v = view_of w rows in
      let all = all_places v in
      looks_bounded all.0 looks all.1 (visit_looks v visit all.1.tree)
