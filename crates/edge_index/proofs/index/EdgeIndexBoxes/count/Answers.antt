use Rattle.std.proofs.Common.{length, subst, ap, arith}
use Rattle.edge_index.specs.Index.{SeenIndex}
use Rattle.edge_index.specs.Segments.{AreLeavesOf}
use Rattle.edge_index.specs.Trees.{IsBoxTree}
use Rattle.edge_index.proofs.IndexRows.{places_count, rows_count, index_box_tree, index_leaves}
use Rattle.edge_index.proofs.index.EdgeIndexBoxes.count.Goals as goal

pub overflow_cast-result : goal.overflow_cast-result
overflow_cast-result g c =
    let s = c.self.inside in
    omega (arith, c.self.invariant.few, places_count s.segs s.leaves.items c.self.invariant.places, s.leaves.ok.0)

pub returns-clause-count : goal.returns-clause-count
returns-clause-count g c =
    let s = c.self.inside in
    let rows = ap (λ (seen : SeenIndex). length seen.rows) c.self.view_is in
    omega (arith, rows, rows_count s.segs s.leaves.items s.inner.items c.self.invariant, s.leaves.ok.0)

pub returns-clause-tree : goal.returns-clause-tree
returns-clause-tree g c =
    let s = c.self.inside in
    subst (λ (seen : SeenIndex). IsBoxTree seen.rows) c.self.view_is (index_box_tree s.segs s.leaves.items s.inner.items c.self.invariant)

pub returns-clause-leaves : goal.returns-clause-leaves
returns-clause-leaves g c =
    let s = c.self.inside in
    subst (λ (seen : SeenIndex). AreLeavesOf seen.segs seen.rows) c.self.view_is
    (index_leaves s.segs s.leaves.items s.inner.items c.self.invariant)
