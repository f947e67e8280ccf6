use Rattle.std.proofs.Common.{pos, ◌<ℤ◌, rules}
use Rattle.whole_algebra.proofs.Signs.{not_<ℤ}
use Rattle.plane_exact.specs.Orders.{direction_of}
use Rattle.plane_laws.specs.Directions.{bend_of}
use Rattle.fan_order.proofs.Middles.{sum_is_within, quarter_is_within}
use Rattle.fan_order.proofs.middle.middle_between.Goals as goal

pub returns-then-is_left_of-clause-within : goal.returns-then-is_left_of-clause-within
returns-then-is_left_of-clause-within c =
    let left : pos 0 <ℤ bend_of (direction_of c.args.ray) (direction_of c.args.next) = search rules in
    sum_is_within c.args.ray c.args.next c.sum_of.result c.sum_of.ensures.across c.sum_of.ensures.above left

pub returns-clause-within : goal.returns-clause-within
returns-clause-within c =
    let off : ¬ (pos 0 <ℤ bend_of (direction_of c.args.ray) (direction_of c.args.next)) = search rules in
    quarter_is_within c.args.ray c.args.next c.quarter_left.result c.quarter_left.ensures.across c.quarter_left.ensures.above
    (not_<ℤ (pos 0) (bend_of (direction_of c.args.ray) (direction_of c.args.next)) off)
