-- The rows of a built index: in order, filled in, and exactly those of the spans.
use Rattle.std.proofs.Common.{◌≡◌, ℕ, ◌+◌, ◌<◌, pos, false, Ordering, Less, Equal, Greater, List, length, get_or, ap, refl, sym, ◌∙◌, subst}
use Rattle.std.proofs.Common.{arith}
use Rattle.std.specs.Prelude.{map}
use Rattle.std.specs.List.{enumerate_from}
use Rattle.std.specs.List.Sorted.{IsSorted, IsPermutation}
use Rattle.std.specs.Ordering.{is_lt, ordering_then, int_cmp, nat_cmp}
use Rattle.std.proofs.lemmas.List.{length-map, get_or-map}
use Rattle.std.proofs.lemmas.List.FromFn.{length-enumerate_from}
use Rattle.std.proofs.lemmas.List.Sorted.{IsPermutation-map}
use Rattle.y_index.specs.Rows.{row_of, IsFilled}
use Rattle.y_index.specs.Trees.{compare_rows, placed, IsSpanTree, AreRowsOf}
use Rattle.y_index.specs.declared.row.Row.{Row}
use Rattle.y_index.specs.declared.rows.Span.{Span}
use Rattle.y_index.specs.declared.rows.SpanRow.{SpanRow}

-- the order by which the code sorts: by `most` at last
abbrev pub compare_whole : Row → Row → Ordering
compare_whole a b =
    ordering_then (int_cmp a.low b.low)
    (ordering_then (int_cmp a.high b.high) (ordering_then (nat_cmp a.item b.item) (int_cmp a.most b.most)))

not_less_before : (o p q r : Ordering) → is_lt (ordering_then o (ordering_then p (ordering_then q r))) ≡ false →
    is_lt (ordering_then o (ordering_then p q)) ≡ false
not_less_before Less p q r e = e
not_less_before Greater p q r e = refl
not_less_before Equal Less q r e = e
not_less_before Equal Greater q r e = refl
not_less_before Equal Equal Less r e = e
not_less_before Equal Equal Equal r e = refl
not_less_before Equal Equal Greater r e = refl

-- the order of rows, by their items and spans alone
abbrev compare_placed : ℕ × Span → ℕ × Span → Ordering
compare_placed a b = ordering_then (int_cmp a.1.low b.1.low) (ordering_then (int_cmp a.1.high b.1.high) (nat_cmp a.0 b.0))

module _ (rows filled : List Row) (kept : map placed (map row_of filled) ≡ map placed (map row_of rows)) where
  same_length : length filled ≡ length rows
  same_length = let e = ap length kept in
      omega (
        arith,
        e,
        length-map (map row_of filled) placed,
        length-map filled row_of,
        length-map (map row_of rows) placed,
        length-map
            rows row_of,
      )

  placed_at : (k : ℕ) (d : SpanRow) (e : Row) → k < length rows →
      placed (get_or (map row_of filled) k d) ≡ placed (row_of (get_or rows k e))
  placed_at k d e below =
      sym (get_or-map placed (map row_of filled) k d (placed d) (omega (arith, below, same_length, length-map filled row_of)))
      ∙ ap (λ list. get_or list k (placed d)) kept
      ∙ get_or-map placed (map row_of rows) k d (placed d) (omega (arith, below, length-map rows row_of))
      ∙ ap placed (get_or-map row_of rows k e d below)

  in_order : IsSorted compare_whole rows → IsSorted compare_rows (map row_of filled)
  in_order sorted k d low high =
      let e : Row = record { low = pos 0; high = pos 0; item = 0; most = pos 0 } in
      let below : k + 1 < length rows = omega (arith, high, same_length, length-map filled row_of) in
      let a = get_or rows (k + 1) e in
      let b = get_or rows k e in
      (λ i. is_lt (compare_placed (placed_at (k + 1) d e below i) (placed_at k d e (omega (arith, below)) i)))
      ∙ not_less_before (int_cmp a.low b.low) (int_cmp a.high b.high) (nat_cmp a.item b.item) (int_cmp a.most b.most) (sorted k e low below)

  -- sorted rows that are filled in stand as a tree
  pub tree_of_filled : (count : ℕ) (greatest : _) → IsSorted compare_whole rows → count ≡ length rows →
      IsFilled 0 count (map row_of filled) greatest → IsSpanTree (map row_of filled)
  tree_of_filled count greatest sorted is filled_in = record {
    sorted = in_order sorted;
    mosts = (subst (λ n. IsFilled 0 n (map row_of filled) greatest)
        (let e : count ≡ length (map row_of filled) = omega (arith, is, same_length, length-map filled row_of) in e) filled_in).mosts;
  }

  -- and are those of the spans from which the rows came, before they were sorted
  pub rows_of_built : (unsorted : List Row) (spans : List Span) → map placed (map row_of unsorted) ≡ enumerate_from 0 spans →
      IsPermutation unsorted rows → AreRowsOf spans (map row_of filled)
  rows_of_built unsorted spans from moved = record {
    all =
        subst (λ (list : List (ℕ × Span)). IsPermutation (enumerate_from 0 spans) list) (sym kept)
        (subst (λ (list : List (ℕ × Span)). IsPermutation list (map placed (map row_of rows))) from
        (IsPermutation-map placed (map row_of unsorted) (map row_of rows) (IsPermutation-map row_of unsorted rows moved)));
  }

-- there are as many rows as spans
pub as_many : (rows : List Row) (spans : List Span) → map placed (map row_of rows) ≡ enumerate_from 0 spans → length rows ≡ length spans
as_many rows spans from = let e = ap length from in
    omega (arith, e, length-map (map row_of rows) placed, length-map rows row_of, length-enumerate_from 0 spans)
