use Rattle.std.proofs.Common.{◌≡◌, List, ap, sym, ◌∙◌, subst}
use Rattle.plane_exact.specs.declared.point.Seg.{Seg}
use Rattle.union_locator.specs.Plains.{segs_of}
use Rattle.relate_prep.specs.Cells.{IsOrigin}
use Rattle.relate_prep.specs.Prepared.{SeenBasis}
use Rattle.relate_prep.proofs.target.SessionTarget.edges_in.Goals as goal

pub places_in-requires-clause-index : goal.places_in-requires-clause-index
places_in-requires-clause-index c =
    let edge = c.self.inside.edge in
    let rows = c.basis.inside.rows in
    let same : c.self.inside.basis.now.segs ≡ segs_of rows =
    sym (ap (λ (basis : SeenBasis). basis.segs) c.basis.view_is) ∙ c.basis.invariant.alone in
    c.index.ensures.edges (segs_of rows)
    (subst (λ (segs : List Seg). IsOrigin segs edge.known edge.origin) same c.self.invariant.edge.origin)
