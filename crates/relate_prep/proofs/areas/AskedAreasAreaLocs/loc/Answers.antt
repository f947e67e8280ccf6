use Rattle.std.proofs.Common.{◌∙◌, ap, sym}
use Rattle.std.proofs.lemmas.Bool.{true≢false}
use Rattle.plane_exact.specs.NodePoints.{point_at}
use Rattle.relate_prep.specs.Sessions.{SeenAreas}
use Rattle.union_locator.proofs.Laws.{far_area}
use Rattle.relate_prep.proofs.areas.AskedAreasAreaLocs.loc.Goals as goal

pub returns-else-meets-clause-location : goal.returns-else-meets-clause-location
returns-else-meets-clause-location c =
    far_area (ap (λ (seen : SeenAreas). seen.figure) c.self.view_is) c.self.invariant.shaped c.self.invariant.valid
    c.self.invariant.shells c.args.area c.at.ensures.item (point_at c.args.n.now) c.round.ensures.least
    (λ common. true≢false (sym (c.meets.ensures.common.1 common) ∙ c.if-meets.false))
