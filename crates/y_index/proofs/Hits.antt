-- Which rows of a part hold a height.
use Rattle.std.proofs.Common.{◌≡◌, ℕ, zero, suc, ◌+◌, ◌<◌, ◌≤◌, Bool, true, false, cond, ◌&&◌, ℤ, ◌<ℤ◌, ◌≤ℤ◌, List, [], ◌∷◌, ◌++◌, length}
use Rattle.std.proofs.Common.{get_or, Ordering, Less, Equal, Greater, ap, refl, sym, ◌∙◌, arith}
use Rattle.std.specs.Prelude.{Some, slice_get, slice_range, int_le, map}
use Rattle.std.specs.List.{All, filter}
use Rattle.std.specs.List.Sorted.{IsSorted, IsSortedBy}
use Rattle.std.specs.Ordering.{is_lt, ordering_then, int_cmp}
use Rattle.std.proofs.lemmas.Bool.{true≢false}
use Rattle.std.proofs.lemmas.Int.{ints}
use Rattle.std.proofs.lemmas.Cmp.{int_cmp_total, int_ranked}
use Rattle.std.proofs.lemmas.List.{map-append}
use Rattle.std.proofs.lemmas.List.Elements.{filter-append, All-head, All-tail, All-nil, All-cons, All-weaker}
use Rattle.std.proofs.lemmas.List.Sorted.{sorted_far, ranks_by}
use Rattle.std.proofs.lemmas.Option.{slice_get_within, get_or_from_slice_get}
use Rattle.whole_algebra.proofs.Laws.{linear}
use Rattle.y_index.proofs.Slices.{All-slice_range}
use Rattle.y_index.specs.Parts.{is_between, rows_between, items_between}
use Rattle.y_index.specs.Trees.{compare_rows}
use Rattle.y_index.specs.declared.rows.SpanRow.{SpanRow}

-- ---- filters
filter_none : {X : Type 0} (p : X → Bool) (xs : List X) → All (λ x. p x ≡ false) xs → filter p xs ≡ []
filter_none p [] h = refl
filter_none p (x ∷ xs) h = ap (λ t. cond t (x ∷ filter p xs) (filter p xs)) (All-head (λ y. p y ≡ false) x xs h)
    ∙ filter_none p xs (All-tail (λ y. p y ≡ false) x xs h)

passes_more : {X : Type 0} (p : X → Bool) (x : X) (xs : List X) → length (filter p (x ∷ xs)) ≡ 0 → (t : Bool) → p x ≡ t →
    (length (filter p xs) ≡ 0 → All (λ y. p y ≡ false) xs) → All (λ y. p y ≡ false) (x ∷ xs)
passes_more p x xs h true e rest =
    absurd (let k : suc (length (filter p xs)) ≡ 0 = ap (λ s. length (cond s (x ∷ filter p xs) (filter p xs))) (sym e) ∙ h in
    omega (arith, k))
passes_more p x xs h false e rest =
    All-cons (λ y. p y ≡ false) x xs e (rest (ap (λ s. length (cond s (x ∷ filter p xs) (filter p xs))) (sym e) ∙ h))

-- a list of which a filter keeps nothing passes the test nowhere
none_passes : {X : Type 0} (p : X → Bool) (xs : List X) → length (filter p xs) ≡ 0 → All (λ x. p x ≡ false) xs
none_passes p [] h = All-nil (λ y. p y ≡ false)
none_passes p (x ∷ xs) h = passes_more p x xs h (p x) refl (λ k. none_passes p xs k)

-- ---- by the ends of a row
apart_above : (floor ceiling : ℤ) (row : SpanRow) → row.high <ℤ ceiling → is_between floor ceiling row ≡ false
apart_above floor ceiling row h = go (int_le row.low floor) (let e : int_le ceiling row.high ≡ false = grind (arith, ints) in e)
  where
    go : (t : Bool) → int_le ceiling row.high ≡ false → (t && int_le ceiling row.high) ≡ false
    go true e = e
    go false e = refl

apart_below : (floor ceiling : ℤ) (row : SpanRow) → floor <ℤ row.low → is_between floor ceiling row ≡ false
apart_below floor ceiling row h = ap (λ t. t && int_le ceiling row.high) (let e : int_le row.low floor ≡ false = grind (arith, ints) in e)

-- no row reaches up to the ceiling
pub none_above : (floor ceiling greatest : ℤ) (rows : List SpanRow) → All (λ row. row.high ≤ℤ greatest) rows → greatest <ℤ ceiling →
    rows_between floor ceiling rows ≡ []
none_above floor ceiling greatest rows all h =
    filter_none (is_between floor ceiling) rows
    (All-weaker (λ (row : SpanRow). row.high ≤ℤ greatest) (λ row. is_between floor ceiling row ≡ false)
    (λ row k. apart_above floor ceiling row (omega (arith, linear, k, h))) rows all)

-- every row begins above the floor
pub none_below : (floor ceiling : ℤ) (rows : List SpanRow) → All (λ row. floor <ℤ row.low) rows → rows_between floor ceiling rows ≡ []
none_below floor ceiling rows all =
    filter_none (is_between floor ceiling) rows
    (All-weaker (λ (row : SpanRow). floor <ℤ row.low) (λ row. is_between floor ceiling row ≡ false) (apart_below floor ceiling) rows all)

-- where no row begins above the floor, and one reaches up to the ceiling, that one holds the height
pub some_between : (floor ceiling greatest : ℤ) (rows : List SpanRow) → All (λ row. row.low ≤ℤ floor) rows →
    ¬ All (λ row. row.high <ℤ greatest) rows → ceiling ≤ℤ greatest → 0 < length (rows_between floor ceiling rows)
some_between floor ceiling greatest rows low reached h = go (length (rows_between floor ceiling rows)) refl
  where
    below : (row : SpanRow) → row.low ≤ℤ floor → is_between floor ceiling row ≡ false → row.high <ℤ greatest
    below row k e = let f : int_le ceiling row.high ≡ false = ap (λ t. t && int_le ceiling row.high)
        (let y : true ≡ int_le row.low floor = grind (arith, ints) in y) ∙ e in grind (arith, ints)

    go : (n : ℕ) → length (rows_between floor ceiling rows) ≡ n → 0 < length (rows_between floor ceiling rows)
    go zero e =
        absurd (reached (λ k d within. below (get_or rows k d) (low k d within) (none_passes (is_between floor ceiling) rows e k d within)))
    go (suc n) e = omega (arith, e)

-- ---- along a part with its root
pub rows_between-split : (floor ceiling : ℤ) (before : List SpanRow) (root : SpanRow) (after : List SpanRow) →
    rows_between floor ceiling (before ++ root ∷ after) ≡ rows_between floor ceiling before ++
    (rows_between floor ceiling (root ∷ []) ++ rows_between floor ceiling after)
rows_between-split floor ceiling before root after =
    filter-append (is_between floor ceiling) before (root ∷ after)
    ∙ ap (λ rows. rows_between floor ceiling before ++ rows) (filter-append (is_between floor ceiling) (root ∷ []) after)

pub items_between-split : (floor ceiling : ℤ) (before : List SpanRow) (root : SpanRow) (after : List SpanRow) →
    items_between floor ceiling (before ++ root ∷ after) ≡ items_between floor ceiling before ++
    (items_between floor ceiling (root ∷ []) ++ items_between floor ceiling after)
items_between-split floor ceiling before root after =
    ap (λ rows. map (λ (row : SpanRow). row.item) rows) (rows_between-split floor ceiling before root after)
    ∙ map-append (λ (row : SpanRow). row.item) (rows_between floor ceiling before)
    (rows_between floor ceiling (root ∷ []) ++ rows_between floor ceiling after)
    ∙ ap (λ items. items_between floor ceiling before ++ items)
    (map-append (λ (row : SpanRow). row.item) (rows_between floor ceiling (root ∷ [])) (rows_between floor ceiling after))

-- ---- the lows rise along rows in order
first_not_less : (o p : Ordering) → is_lt (ordering_then o p) ≡ false → is_lt o ≡ false
first_not_less Less p e = e
first_not_less Equal p e = refl
first_not_less Greater p e = refl

not_less : (a b : ℤ) → is_lt (int_cmp a b) ≡ false → b ≤ℤ a
not_less a b e = go (int_cmp a b) refl
  where
    go : (o : Ordering) → o ≡ int_cmp a b → b ≤ℤ a
    go Less h = absurd (true≢false (ap is_lt h ∙ e))
    go Equal h = let k : a ≡ b = int_ranked a b Equal h in omega (arith, linear, k)
    go Greater h = let k : b <ℤ a = int_ranked a b Greater h in omega (arith, linear, k)

pub lows_rise : (rows : List SpanRow) → IsSorted compare_rows rows → (i j : ℕ) (d : SpanRow) → i ≤ j → j < length rows →
    (get_or rows i d).low ≤ℤ (get_or rows j d).low
lows_rise rows sorted i j d h k =
    not_less (get_or rows j d).low (get_or rows i d).low
    (sorted_far (λ (a b : SpanRow). is_lt (int_cmp a.low b.low)) (ranks_by int_cmp_total (λ (row : SpanRow). row.low)) rows by_lows i j d
    h k)
  where
    by_lows : IsSortedBy (λ (a b : SpanRow). is_lt (int_cmp a.low b.low)) rows
    by_lows n e low high = let a = get_or rows (n + 1) e in let b = get_or rows n e in
        first_not_less (int_cmp a.low b.low) _ (sorted n e low high)

module _ (rows : List SpanRow) (sorted : IsSorted compare_rows rows) (m : ℕ) (root : SpanRow) (is : slice_get rows m ≡ Some root) where
  -- no row before a root that doesn't begin above the floor begins above it
  pub low_before : (floor : ℤ) (i : ℕ) → root.low ≤ℤ floor → All (λ row. row.low ≤ℤ floor) (slice_range rows i m)
  low_before floor i h = All-slice_range rows (λ row. row.low ≤ℤ floor) i m (omega (arith, slice_get_within rows m root is))
      (λ k d low high. let e : (get_or rows m d).low ≡ root.low = ap (λ (row : SpanRow). row.low)
      (get_or_from_slice_get rows m root d is) in let r = lows_rise rows sorted k m d (omega arith) (slice_get_within rows m root is) in
      omega (arith, linear, h, e, r))

  -- every row after a root that begins above the floor begins above it
  pub high_after : (floor : ℤ) (j : ℕ) → j ≤ length rows → floor <ℤ root.low → All (λ row. floor <ℤ row.low) (slice_range rows (m + 1) j)
  high_after floor j within h = All-slice_range rows (λ row. floor <ℤ row.low)
      (m + 1) j within
      (λ k d low high. let e : (get_or rows m d).low ≡ root.low = ap (λ (row : SpanRow). row.low)
      (get_or_from_slice_get rows m root d is) in let r = lows_rise rows sorted m k d (omega arith) (omega arith) in
      omega (arith, linear, h, e, r))
