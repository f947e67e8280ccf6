-- The location by the rows that hold a point's height is that by all edges.
use Rattle.std.proofs.Common.{◌≡◌, ℕ, ◌<◌, Bool, true, false, ◌&&◌, ℤ, ◌*ℤ◌, ◌<ℤ◌, ◌≤ℤ◌, List, length, get_or, ap, refl, sym, ◌∙◌, arith}
use Rattle.std.specs.Prelude.{map, int_le}
use Rattle.std.specs.Int.{int_min, int_max}
use Rattle.std.specs.List.{All, FoldsTo}
use Rattle.std.proofs.lemmas.Bool.{false≢true}
use Rattle.std.proofs.lemmas.Int.{ints, clamps}
use Rattle.std.proofs.lemmas.List.Elements.{All-map, All-filter, All-weaker}
use Rattle.std.proofs.lemmas.List.Sorted.{list_any-IsPermutation}
use Rattle.std.proofs.lemmas.Simd.{map-map}
use Rattle.whole_algebra.proofs.Signs.{not_≤ℤ}
use Rattle.im_matrix.specs.declared.Loc.{Loc}
use Rattle.im_matrix.specs.declared.Loc.TheVariants.{Exterior}
use Rattle.plane_laws.proofs.Segments.On.{Decides-int_le}
use Rattle.plane_laws.specs.Plane.{Point}
use Rattle.plane_exact.specs.declared.point.Seg.{Seg}
use Rattle.point_set.specs.Location.{location_by}
use Rattle.point_set.specs.Rings.{is_on_edge, is_on_edges, crosses, is_odd}
use Rattle.y_index.specs.Heights.{holds_height, rows_at, items_at}
use Rattle.y_index.specs.Levels.{IsLevel}
use Rattle.y_index.specs.Trees.{span_of}
use Rattle.y_index.specs.declared.rows.SpanRow.{SpanRow}
use Rattle.area_locator.proofs.RowEdges.{no_edge, edge_of, HasEdge, have_edges, edges_moved, is_odd-IsPermutation, MissesUnkept, on_kept}
use Rattle.area_locator.proofs.RowEdges.{odd_kept}
use Rattle.area_locator.proofs.Tally.{StepsByEdges, tally}
use Rattle.area_locator.proofs.Touching.{misses_below, misses_above, misses_by}
use Rattle.area_locator.specs.Indexed.{heights_of, AreRowsOfEdges}
use Rattle.area_locator.specs.Touches.{touch_of}
use Rattle.area_locator.specs.declared.touch.Touch.TheVariants.{Misses}

-- an edge that doesn't have a point's height does nothing to it
missed : {p : Point} {floor ceiling : ℤ} → IsLevel p floor ceiling → (e : Seg) → holds_height p (heights_of e) ≡ false →
    touch_of false p e.a e.b ≡ Misses
missed {p} {floor} {ceiling} level e off = go (int_le (int_min e.a.y e.b.y *ℤ p.w) p.y) refl
  where
    above : int_le (int_min e.a.y e.b.y *ℤ p.w) p.y ≡ false → touch_of false p e.a e.b ≡ Misses
    above h =
        let out : ¬ (int_min e.a.y e.b.y ≤ℤ floor) =
        λ k. false≢true (sym h ∙ (Decides-int_le (int_min e.a.y e.b.y *ℤ p.w) p.y).1 ((level.low (int_min e.a.y e.b.y)).0 k)) in
        let start : floor <ℤ e.a.y = not_≤ℤ e.a.y floor (λ k. out (omega (arith, ints, clamps, k))) in
        let end : floor <ℤ e.b.y = not_≤ℤ e.b.y floor (λ k. out (omega (arith, ints, clamps, k))) in
        misses_below level false e.a e.b start end

    below : int_le p.y (int_max e.a.y e.b.y *ℤ p.w) ≡ false → touch_of false p e.a e.b ≡ Misses
    below h =
        let out : ¬ (ceiling ≤ℤ int_max e.a.y e.b.y) =
        λ k. false≢true (sym h ∙ (Decides-int_le p.y (int_max e.a.y e.b.y *ℤ p.w)).1 ((level.high (int_max e.a.y e.b.y)).0 k)) in
        let start : e.a.y <ℤ ceiling = not_≤ℤ ceiling e.a.y (λ k. out (omega (arith, ints, clamps, k))) in
        let end : e.b.y <ℤ ceiling = not_≤ℤ ceiling e.b.y (λ k. out (omega (arith, ints, clamps, k))) in
        misses_above level false e.a e.b start end

    go : (t : Bool) → int_le (int_min e.a.y e.b.y *ℤ p.w) p.y ≡ t → touch_of false p e.a e.b ≡ Misses
    go true h = below (ap (λ z. z && int_le p.y (int_max e.a.y e.b.y *ℤ p.w)) (sym h) ∙ off)
    go false h = above h

-- a row that doesn't hold a point's height has an edge that does nothing to it
unkept_misses : {p : Point} {floor ceiling : ℤ} → IsLevel p floor ceiling → (edges : List Seg) (row : SpanRow) → HasEdge edges row →
    MissesUnkept p (λ row. holds_height p (span_of row)) edges row
unkept_misses {p} level edges row has off =
    let e = edge_of edges row in
    misses_by (is_on_edge p e) (crosses p e) (missed level e (ap (holds_height p) has.heights ∙ off))

module _ {p : Point} {floor ceiling : ℤ} (level : IsLevel p floor ceiling) (edges : List Seg) (rows : List SpanRow)
    (h : AreRowsOfEdges edges rows) where
  unkept : All (MissesUnkept p (λ row. holds_height p (span_of row)) edges) rows
  unkept = All-weaker (HasEdge edges) (MissesUnkept p (λ row. holds_height p (span_of row)) edges)
      (unkept_misses level edges) rows (have_edges edges rows h)

  on_is : is_on_edges p (map (edge_of edges) (rows_at p rows)) ≡ is_on_edges p edges
  on_is =
      on_kept p (λ row. holds_height p (span_of row)) edges rows unkept
      ∙ sym (list_any-IsPermutation (is_on_edge p) edges (map (edge_of edges) rows) (edges_moved edges rows h))

  odd_is : is_odd p (map (edge_of edges) (rows_at p rows)) ≡ is_odd p edges
  odd_is =
      odd_kept p (λ row. holds_height p (span_of row)) edges rows unkept
      ∙ is_odd-IsPermutation p edges (map (edge_of edges) rows) (edges_moved edges rows h)

  -- the items of the rows are places of edges
  pub items_within : All (λ row. row.item < length edges) rows
  items_within = All-weaker (HasEdge edges) (λ (row : SpanRow). row.item < length edges)
      (λ row has. has.below) rows (have_edges edges rows h)

  -- a fold by edges over the items of the rows that hold the height is the location by all edges
  pub located : (R : Loc → ℕ → Loc → Type 0) → StepsByEdges p edges R → (r : Loc) → FoldsTo R Exterior (items_at p rows) r →
      r ≡ location_by (is_on_edges p edges) (is_odd p edges) false
  located R steps r folded =
      let IsWithin : SpanRow → Type 0 = λ row. row.item < length edges in
      let holds : SpanRow → Bool = λ row. holds_height p (span_of row) in
      let within = All-map (λ i. i < length edges) (λ (row : SpanRow). row.item) (rows_at p rows)
      (All-filter holds IsWithin rows items_within) in
      let at_rows = map-map (λ i. get_or edges i no_edge) (λ (row : SpanRow). row.item) (rows_at p rows) in
      tally p edges R steps (items_at p rows) r within folded
      ∙ ap (λ list. location_by (is_on_edges p list) (is_odd p list) false) at_rows
      ∙ (λ i. location_by (on_is i) (odd_is i) false)
