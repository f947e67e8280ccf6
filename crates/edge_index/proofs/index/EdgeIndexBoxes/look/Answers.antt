use Rattle.std.proofs.Common.{◌≡◌, ◌<◌, ◌-◌, ◌*◌, length, ℕ, List, subst, subst₂, sym, ap, arith}
use Rattle.std.specs.Prelude.{All}
use Rattle.plane_exact.specs.declared.point.Seg.{Seg}
use Rattle.plane_exact.specs.declared.window.Window.{Window}
use Rattle.edge_index.specs.declared.boxes.BoxRow.{BoxRow}
use Rattle.edge_index.specs.Index.{SeenIndex}
use Rattle.edge_index.specs.Rows.{row_at}
use Rattle.edge_index.specs.Trees.{IsRowAt}
use Rattle.edge_index.proofs.IndexRows.{places_within, rows_count, row_there}
use Rattle.edge_index.proofs.index.EdgeIndexBoxes.look.Given.{Over}
use Rattle.edge_index.proofs.index.EdgeIndexBoxes.look.Goals as goal
use Rattle.edge_index.proofs.index.EdgeIndexBoxes.look.Goals.{After-deref-2}

-- the place is one of the index's rows
within : (g : Over) (c : After-deref-2 g) → c.args.place < 2 * length c.self.inside.leaves.items - 1
within g c =
    let s = c.self.inside in
    let rows = ap (λ (seen : SeenIndex). length seen.rows) c.self.view_is in
    omega (arith, rows, rows_count s.segs s.leaves.items s.inner.items c.self.invariant, c.requires.place)

pub row_at-requires-clause-place : goal.row_at-requires-clause-place
row_at-requires-clause-place g c = omega (arith, within g c, ap length c.deref.ensures.value)

pub row_at-requires-clause-places : goal.row_at-requires-clause-places
row_at-requires-clause-places g c =
    let s = c.self.inside in
    subst₂ (λ (leaves : List ℕ) (segs : List Seg). All (λ (place : ℕ). place < length segs) leaves) (sym c.deref.ensures.value)
    (sym c.as_slice.ensures.items) (places_within s.segs s.leaves.items c.self.invariant.places)

pub returns-clause-row : goal.returns-clause-row
returns-clause-row g c =
    let s = c.self.inside in
    let place = c.args.place in
    let there = row_there s.segs s.leaves.items s.inner.items c.self.invariant place
    (within g (goal.at.returns-clause-row g c).After-deref-2) in
    let result = c.row_at.result in
    let by_inner = subst
    (λ (inner : List Window). result ≡ row_at c.as_slice.result.now c.deref.result.now inner place) c.deref-2.ensures.value
    c.row_at.ensures.row in
    let row = subst₂
    (λ (segs : List Seg)
    (leaves : List ℕ). result ≡ row_at segs leaves s.inner.items place) c.as_slice.ensures.items c.deref.ensures.value by_inner in
    subst₂ (λ (seen : SeenIndex) (r : BoxRow). IsRowAt seen.rows place r) c.self.view_is (sym row) there
