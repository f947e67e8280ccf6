use Rattle.std.proofs.Common.{subst}
use Rattle.std.proofs.lemmas.Result.{IfOk-weaker}
use Rattle.edge_index.specs.Index.{SeenIndex}
use Rattle.edge_index.specs.Segments.{AreLeavesOf}
use Rattle.edge_index.proofs.IndexRows.{index_leaves}
use Rattle.edge_index.proofs.Places.{places_from_items}
use Rattle.edge_index.proofs.index.EdgeIndex.query_with.Goals as goal

pub returns-clause-places : goal.returns-clause-places
returns-clause-places g c =
    let s = c.self.inside in
    let seen = c.args.self.now in
    let leaves = subst (λ (seen : SeenIndex). AreLeavesOf seen.segs seen.rows) c.self.view_is
    (index_leaves s.segs s.leaves.items s.inner.items c.self.invariant) in
    IfOk-weaker c.walk.result _ _
    (λ _ found. places_from_items c.args.w seen.segs seen.rows c.walk.new.out leaves found) c.walk.ensures.items
