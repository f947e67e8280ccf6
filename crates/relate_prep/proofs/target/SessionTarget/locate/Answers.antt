use Rattle.std.proofs.Common.{◌≡◌, ◌∙◌, List, ap, arith, length, subst, sym}
use Rattle.std.proofs.lemmas.List.{with_items_is}
use Rattle.plane_exact.specs.NodePoints.{point_at}
use Rattle.plane_exact.specs.declared.point.Seg.{Seg}
use Rattle.point_set.specs.declared.figure.Figure.{Figure}
use Rattle.union_locator.specs.Plains.{segs_of}
use Rattle.relate_prep.specs.Cells.{SeenCell, IsOrigin}
use Rattle.relate_prep.specs.Prepared.{SeenBasis}
use Rattle.relate_prep.specs.Sessions.{AreAskedNear}
use Rattle.relate_prep.proofs.AskingCells.{on_ok}
use Rattle.relate_prep.proofs.target.SessionTarget.locate.Goals as goal

pub places_in-requires-clause-index : goal.places_in-requires-clause-index
places_in-requires-clause-index c =
    let edge = c.self.inside.edge in
    let same : c.self.inside.basis.now.segs ≡ segs_of c.basis.inside.rows =
    sym (ap (λ (b : SeenBasis). b.segs) c.basis.view_is) ∙ c.basis.invariant.alone in
    c.index.ensures.edges (segs_of c.basis.inside.rows)
    (subst (λ (segs : List Seg). IsOrigin segs edge.known edge.origin) same c.self.invariant.edge.origin)

pub returns-clause-areas_asked : goal.returns-clause-areas_asked
returns-clause-areas_asked c =
    let p = point_at c.args.n.now in
    let vec = c.self.inside.areas in
    let asked = c.ask_near.new.asked in
    let figure : c.basis.inside.valid ≡ c.self.inside.basis.now.figure = ap (λ (b : SeenBasis). b.figure) c.basis.view_is in
    let long : length asked ≡ vec.len = omega (arith, c.ask_near.auto.asked, c.as_mut_slice.ensures.len) in
    let near : AreAskedNear c.self.inside.basis.now.figure.areas p asked =
    subst (λ (f : Figure). AreAskedNear f.areas p asked) figure c.in_ok-ask_near.ensures.asked in
    on_ok c.locate_asked.result
    (subst (λ (cells : List SeenCell). AreAskedNear c.self.inside.basis.now.figure.areas p cells) (sym (with_items_is vec asked long)) near)
