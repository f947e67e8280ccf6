use Rattle.std.proofs.Common.{refl}
use Rattle.figure_laws.proofs.Lists.Places.{read_at}
use Rattle.geom_valid.specs.Boxes.{IsRoundArea}
use Rattle.geom_valid.proofs.NearPlaces.{round_on}
use Rattle.geom_valid.proofs.boxes.area_boxes.Goals as goal

pub loop-area-preserved : goal.loop-area-preserved
loop-area-preserved c =
    round_on IsRoundArea c.args.areas.now c.loop-area.boxes c.push.new.self c.loop-area.area-index c.area_box.result c.area-item.result
    c.loop-area.invariant c.in_ok-push.ensures.ok
    (read_at c.args.areas.now c.args.areas.now c.loop-area.area-index c.area-item.result refl c.loop-area-test.true c.area-item.is)
    c.area_box.ensures.round
