use Rattle.std.proofs.Common.{refl}
use Rattle.figure_laws.proofs.Lists.Places.{read_at}
use Rattle.geom_valid.specs.Boxes.{IsRoundRing}
use Rattle.geom_valid.proofs.NearPlaces.{round_on}
use Rattle.geom_valid.proofs.boxes.ring_boxes.Goals as goal

pub loop-ring-preserved : goal.loop-ring-preserved
loop-ring-preserved c =
    round_on IsRoundRing c.args.rings.now c.loop-ring.boxes c.push.new.self c.loop-ring.ring-index c.ring_box.result c.ring-item.result
    c.loop-ring.invariant c.in_ok-push.ensures.ok
    (read_at c.args.rings.now c.args.rings.now c.loop-ring.ring-index c.ring-item.result refl c.loop-ring-test.true c.ring-item.is)
    c.ring_box.ensures.round
