use Rattle.std.proofs.Common.{◌∙◌, ap, sym}
use Rattle.std.proofs.lemmas.Bool.{true≢false}
use Rattle.plane_exact.specs.NodePoints.{point_at}
use Rattle.union_locator.specs.Areas.{SeenAreas}
use Rattle.union_locator.proofs.NearShells.{far_area}
use Rattle.union_locator.proofs.areas.IndexedAreasAreaLocs.loc.Goals as goal

pub returns-else-meets-clause-location : goal.returns-else-meets-clause-location
returns-else-meets-clause-location c =
    far_area (ap (λ (seen : SeenAreas). seen.figure) c.self.view_is) c.self.invariant.shaped c.self.invariant.valid
    c.self.invariant.shells c.args.area c.at.ensures.item (point_at c.args.n.now) c.round.ensures.least
    (λ common. true≢false (sym (c.meets.ensures.common.1 common) ∙ c.if-meets.false))
