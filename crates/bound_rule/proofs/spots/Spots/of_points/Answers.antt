use Rattle.std.proofs.Common.{refl, ap, length, arith}
use Rattle.bound_rule.proofs.AtSpots.{one_point_more, all_points}
use Rattle.bound_rule.proofs.Items.{read_there}
use Rattle.bound_rule.proofs.spots.Spots.of_points.Goals as goal

pub loop-point-init : goal.loop-point-init
loop-point-init c = rw c.new.ensures.empty (λ p. refl)

pub loop-point-preserved : goal.loop-point-preserved
loop-point-preserved c =
    let there = read_there _ c.args.points.now _ c.as_slice-point-items.ensures.items c.loop-point-test.true _ in
    one_point_more c.args.points.now _ _ c.loop-point.spots c.add.new.self there.0 there.1 c.loop-point.invariant
    c.in_ok-add.ensures.added

pub returns : goal.returns
returns c =
    let same = c.as_slice-point-items.ensures.items in
    record {
      spots =
          all_points c.args.points.now c.loop-point.point-index c.loop-point.spots (omega (arith, ap length same)) c.loop-point.invariant;
    }
