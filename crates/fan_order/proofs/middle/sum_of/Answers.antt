use Rattle.std.proofs.Common.{sym, subst₂}
use Rattle.plane_exact.specs.Directions.{IsWay}
use Rattle.fan_order.proofs.Middles.{sum_computes, IsWay-sum}
use Rattle.fan_order.proofs.middle.sum_of.Goals as goal

pub invariant_of-result : goal.invariant_of-result
invariant_of-result c =
    record {
      way = subst₂ IsWay (sym (sum_computes c.args.ray.dx c.args.next.dx c.requires.ray.across c.requires.next.across))
          (sym (sum_computes c.args.ray.dy c.args.next.dy c.requires.ray.above c.requires.next.above))
          (IsWay-sum c.args.ray c.args.next c.requires.ray c.requires.next c.requires.left);
    }
