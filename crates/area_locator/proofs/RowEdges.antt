-- Rows of edges: each row has an edge, and all rows together have all edges.
use Rattle.std.proofs.Common.{◌≡◌, ℕ, zero, suc, ◌+◌, ◌<◌, Bool, true, false, not, ◌||◌, cond, List, [], ◌∷◌, length, get_or, pos, ap, refl}
use Rattle.std.proofs.Common.{sym, ◌∙◌, subst, arith, zero-add}
use Rattle.std.specs.Prelude.{map}
use Rattle.std.specs.List.{All, enumerate_from, filter, count_by}
use Rattle.std.specs.List.Sorted.{IsPermutation}
use Rattle.std.proofs.lemmas.List.{length-map, get_or-map, get_or_default, same_lists}
use Rattle.std.proofs.lemmas.List.Elements.{All-head, All-tail}
use Rattle.std.proofs.lemmas.List.FromFn.{length-enumerate_from, get_or-enumerate_from}
use Rattle.std.proofs.lemmas.List.Sorted.{IsPermutation-map, All-permutation, length_permutation, sum_by-IsPermutation}
use Rattle.std.proofs.lemmas.List.Sums.{length-filter, sum_by-cons}
use Rattle.std.proofs.lemmas.Simd.{map-map}
use Rattle.plane_laws.specs.Plane.{Point}
use Rattle.plane_exact.specs.declared.point.Seg.{Seg}
use Rattle.point_set.specs.Rings.{is_on_edge, is_on_edges, crosses, differ, is_odd}
use Rattle.y_index.specs.Heights.{holds_height, rows_at}
use Rattle.y_index.specs.Trees.{span_of, placed}
use Rattle.y_index.specs.declared.rows.Span.{Span}
use Rattle.y_index.specs.declared.rows.SpanRow.{SpanRow}
use Rattle.area_locator.specs.Indexed.{heights_of, edges_at, AreRowsOfEdges}

-- the edge past the end of a list
abbrev pub no_edge : Seg
no_edge = record { a = record { x = pos 0; y = pos 0 }; b = record { x = pos 0; y = pos 0 } }

-- the edge at a row's item
abbrev pub edge_of : List Seg → SpanRow → Seg
edge_of edges row = get_or edges row.item no_edge

-- a row's item is the place of an edge that has the row's heights
pub record HasEdge (edges : List Seg) (row : SpanRow) : Type 0 where
  pub below : row.item < length edges
  pub heights : heights_of (edge_of edges row) ≡ span_of row

-- ---- counts of a list and its permutation
same_count : {X : Type 0} (p : X → Bool) (xs ys : List X) → IsPermutation xs ys → length (filter p ys) ≡ length (filter p xs)
same_count p xs ys moved = length-filter p ys ∙ sum_by-IsPermutation (λ x. cond (p x) 1 0) xs ys moved ∙ sym (length-filter p xs)

-- whether a number is odd
parity : ℕ → Bool
parity zero = false
parity (suc n) = not (parity n)

is_odd-count : (p : Point) (edges : List Seg) → is_odd p edges ≡ parity (count_by (crosses p) edges)
unfolding parity
is_odd-count p [] = refl
is_odd-count p (e ∷ edges) = go (crosses p e) (is_odd-count p edges) ∙ ap parity (sym (sum_by-cons (λ e. cond (crosses p e) 1 0) e edges))
  where
    go : (c : Bool) → is_odd p edges ≡ parity (count_by (crosses p) edges) →
        differ c (is_odd p edges) ≡ parity (cond c 1 0 + count_by (crosses p) edges)
    go true h = ap not h ∙ ap parity (let e : suc (count_by (crosses p) edges) ≡ 1 + count_by (crosses p) edges = omega arith in e)
    go false h = h ∙ ap parity (let e : count_by (crosses p) edges ≡ 0 + count_by (crosses p) edges = omega arith in e)

-- the ray crosses an odd number of edges, in whatever order they are taken
pub is_odd-IsPermutation : (p : Point) (xs ys : List Seg) → IsPermutation xs ys → is_odd p ys ≡ is_odd p xs
is_odd-IsPermutation p xs ys moved = is_odd-count p ys ∙ ap parity (sum_by-IsPermutation (λ e. cond (crosses p e) 1 0) xs ys moved)
    ∙ sym (is_odd-count p xs)

-- ---- the edges of the rows
module _ (edges : List Seg) (rows : List SpanRow) (h : AreRowsOfEdges edges rows) where
  -- at each place of the numbered heights stands the place, with the heights of its edge
  numbered_at : (k : ℕ) (d : ℕ × Span) → k < length edges →
      get_or (enumerate_from 0 (map heights_of edges)) k d ≡ (k, heights_of (get_or edges k no_edge))
  numbered_at k d below =
      get_or-enumerate_from 0 (map heights_of edges) k d (omega (arith, below, length-map edges heights_of))
      ∙ (λ i. (zero-add k i, get_or-map heights_of edges k no_edge d.1 below i))

  many_numbered : length (enumerate_from 0 (map heights_of edges)) ≡ length edges
  many_numbered = length-enumerate_from 0 (map heights_of edges) ∙ length-map edges heights_of

  -- each row has an edge
  pub have_edges : All (HasEdge edges) rows
  have_edges k d below =
      let IsOfEdge : ℕ × Span → Type 0 = λ x. (x.0 < length edges) × (heights_of (get_or edges x.0 no_edge) ≡ x.1) in
      let numbered : All IsOfEdge (enumerate_from 0 (map heights_of edges)) =
      λ i e inside. let within : i < length edges = omega (arith, inside, many_numbered) in
      subst IsOfEdge (sym (numbered_at i e within)) (within, refl) in
      let rows_too = All-permutation IsOfEdge (enumerate_from 0 (map heights_of edges)) (map placed rows) h.all numbered in
      let row = get_or rows k d in
      let fact : IsOfEdge (placed row) = subst IsOfEdge (get_or-map placed rows k d (placed d) below)
      (rows_too k (placed d) (omega (arith, below, length-map rows placed))) in
      record { below = fact.0; heights = fact.1 }

  -- the edges of the rows are all edges, in another order
  pub edges_moved : IsPermutation edges (map (edge_of edges) rows)
  edges_moved =
      let at : ℕ × Span → Seg = λ x. get_or edges x.0 no_edge in
      let numbered = enumerate_from 0 (map heights_of edges) in
      let back : map at numbered ≡ edges = same_lists (map at numbered) edges (length-map numbered at ∙ many_numbered)
      (λ k d below.
      let inside : k < length numbered = omega (arith, below, length-map numbered at) in
      let within : k < length edges = omega (arith, inside, many_numbered) in
      get_or-map at numbered k (0, heights_of no_edge) d inside
      ∙ ap at (numbered_at k (0, heights_of no_edge) within)
      ∙ get_or_default edges k no_edge d within) in
      subst (λ list. IsPermutation list (map (edge_of edges) rows)) back
      (subst (λ list. IsPermutation (map at numbered) list) (map-map at placed rows)
      (IsPermutation-map at numbered (map placed rows) h.all))

  pub as_many : length rows ≡ length edges
  as_many = sym (length-map rows (edge_of edges)) ∙ length_permutation edges (map (edge_of edges) rows) edges_moved

-- ---- which edges have a height
filter_alike : {X : Type 0} (p q : X → Bool) (xs : List X) → All (λ x. p x ≡ q x) xs → filter p xs ≡ filter q xs
filter_alike p q [] same = refl
filter_alike p q (x ∷ xs) same =
    (λ i. cond (All-head (λ y. p y ≡ q y) x xs same i) (x ∷ filter_alike p q xs (All-tail (λ y. p y ≡ q y) x xs same) i)
    (filter_alike p q xs (All-tail (λ y. p y ≡ q y) x xs same) i))

length-filter-map : {X Y : Type 0} (p : Y → Bool) (f : X → Y) (xs : List X) →
    length (filter p (map f xs)) ≡ length (filter (λ x. p (f x)) xs)
length-filter-map p f [] = refl
length-filter-map p f (x ∷ xs) = go (p (f x)) (length-filter-map p f xs)
  where
    go : (t : Bool) → length (filter p (map f xs)) ≡ length (filter (λ y. p (f y)) xs) →
        length (cond t (f x ∷ filter p (map f xs)) (filter p (map f xs))) ≡ length
        (cond t (x ∷ filter (λ y. p (f y)) xs) (filter (λ y. p (f y)) xs))
    go true e = ap suc e
    go false e = e

-- as many rows hold a point's height as edges have it
pub hits_same : (edges : List Seg) (rows : List SpanRow) → AreRowsOfEdges edges rows → (p : Point) →
    length (rows_at p rows) ≡ length (edges_at p edges)
hits_same edges rows h p =
    let has : Seg → Bool = λ e. holds_height p (heights_of e) in
    let row_has : SpanRow → Bool = λ row. holds_height p (span_of row) in
    let edge_has : SpanRow → Bool = λ row. has (edge_of edges row) in
    ap length (filter_alike row_has edge_has rows (λ k d below. ap (holds_height p) (sym (have_edges edges rows h k d below).heights)))
    ∙ sym (length-filter-map has (edge_of edges) rows)
    ∙ same_count has edges (map (edge_of edges) rows) (edges_moved edges rows h)

-- ---- what rows that aren't kept leave out
-- the edge of a row that isn't kept does nothing to the point and its ray
abbrev pub MissesUnkept : Point → (SpanRow → Bool) → List Seg → SpanRow → Type 0
MissesUnkept p keep edges row = keep row ≡ false → (is_on_edge p (edge_of edges row) ≡ false) × (crosses p (edge_of edges row) ≡ false)

module _ (p : Point) (keep : SpanRow → Bool) (edges : List Seg) where
  on_more : (row : SpanRow) (rows : List SpanRow) → MissesUnkept p keep edges row →
      is_on_edges p (map (edge_of edges) (filter keep rows)) ≡ is_on_edges p (map (edge_of edges) rows) → (t : Bool) → keep row ≡ t →
      is_on_edges p (map (edge_of edges) (cond t (row ∷ filter keep rows) (filter keep rows))) ≡ is_on_edges p
      (map (edge_of edges) (row ∷ rows))
  on_more row rows miss rest true e = ap (λ z. is_on_edge p (edge_of edges row) || z) rest
  on_more row rows miss rest false e = rest ∙ sym (ap (λ z. z || is_on_edges p (map (edge_of edges) rows)) (miss e).0)

  odd_more : (row : SpanRow) (rows : List SpanRow) → MissesUnkept p keep edges row →
      is_odd p (map (edge_of edges) (filter keep rows)) ≡ is_odd p (map (edge_of edges) rows) → (t : Bool) → keep row ≡ t →
      is_odd p (map (edge_of edges) (cond t (row ∷ filter keep rows) (filter keep rows))) ≡ is_odd p (map (edge_of edges) (row ∷ rows))
  odd_more row rows miss rest true e = ap (differ (crosses p (edge_of edges row))) rest
  odd_more row rows miss rest false e = rest ∙ sym (ap (λ z. differ z (is_odd p (map (edge_of edges) rows))) (miss e).1)

  -- whether the point is on one of the edges is decided by the rows that are kept
  pub on_kept : (rows : List SpanRow) → All (MissesUnkept p keep edges) rows →
      is_on_edges p (map (edge_of edges) (filter keep rows)) ≡ is_on_edges p (map (edge_of edges) rows)
  on_kept [] h = refl
  on_kept (row ∷ rows) h = on_more row rows (All-head (MissesUnkept p keep edges) row rows h)
      (on_kept rows (All-tail (MissesUnkept p keep edges) row rows h)) (keep row) refl

  -- and so is whether the ray crosses an odd number of them
  pub odd_kept : (rows : List SpanRow) → All (MissesUnkept p keep edges) rows →
      is_odd p (map (edge_of edges) (filter keep rows)) ≡ is_odd p (map (edge_of edges) rows)
  odd_kept [] h = refl
  odd_kept (row ∷ rows) h = odd_more row rows (All-head (MissesUnkept p keep edges) row rows h)
      (odd_kept rows (All-tail (MissesUnkept p keep edges) row rows h)) (keep row) refl
