use Rattle.std.proofs.Common.{◌≡◌, ap, subst}
use Rattle.std.proofs.lemmas.Result.{IfOk-weaker}
use Rattle.plane_exact.specs.NodePoints.{point_at}
use Rattle.point_set.specs.declared.figure.Figure.{Figure}
use Rattle.union_locator.specs.Areas.{AreNearAreas}
use Rattle.union_locator.proofs.Laws.{near_areas}
use Rattle.relate_prep.specs.Sessions.{SeenAreas}
use Rattle.relate_prep.proofs.areas.AskedAreasAreaLocs.near.Goals as goal

pub returns-clause-near : goal.returns-clause-near
returns-clause-near c =
    let f = c.self.inside.valid.now in
    let p = point_at c.args.n.now in
    let out = c.near.new.out in
    let known = c.self.invariant in
    let same : f ≡ c.args.self.now.figure = ap (λ (seen : SeenAreas). seen.figure) c.self.view_is in
    IfOk-weaker c.near.result _ _
    (λ _ found.
    subst (λ (z : Figure). AreNearAreas z.areas p out) same
    (near_areas f c.self.inside.shells.now p out known.shaped known.valid known.shells (found f.areas known.shells)))
    c.near.ensures.near
