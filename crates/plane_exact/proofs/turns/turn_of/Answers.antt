use Rattle.std.proofs.Common.{◌-ℤ◌, ◌*ℤ◌, w64, refl, ◌∙◌}
use Rattle.whole_algebra.proofs.Computed.{Computes, stored, bounded, narrow}
use Rattle.plane_exact.specs.Limits.{widest}
use Rattle.plane_exact.proofs.Sizes.{turned}
use Rattle.plane_exact.proofs.Positions.{turn-positions}
use Rattle.plane_exact.proofs.turns.turn_of.Goals as goal

whole :
    (c : goal.After-cross)
    → Computes (narrow c.cross.result)
    ((c.args.b.x -ℤ c.args.a.x) *ℤ (c.args.c.y -ℤ c.args.a.y) -ℤ (c.args.b.y -ℤ c.args.a.y) *ℤ (c.args.c.x -ℤ c.args.a.x)) widest
whole c =
    let e = turned c.args.a c.args.b c.args.c c.requires.a c.requires.b c.requires.c in
    stored w64 (record { is = c.cross.ensures.product ∙ e.is; small = e.small }) refl

pub returns-clause-turn : goal.returns-clause-turn
returns-clause-turn c = (whole c).is ∙ turn-positions c.args.a c.args.b c.args.c

pub returns-clause-size : goal.returns-clause-size
returns-clause-size c = bounded (whole c) refl
