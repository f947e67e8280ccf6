use Rattle.std.proofs.Common.{sym, subst₂}
use Rattle.plane_exact.specs.Directions.{IsWay}
use Rattle.fan_order.proofs.EdgeWays.{across_is, above_is, IsWay-between}
use Rattle.fan_order.proofs.toward.way.Goals as goal

pub invariant_of-result : goal.invariant_of-result
invariant_of-result c =
    let a = c.args.from in
    let b = c.args.to in
    record {
      way =
          subst₂ IsWay (sym (across_is a b c.requires.from c.requires.to)) (sym (above_is a b c.requires.from c.requires.to))
          (IsWay-between a b c.requires.from c.requires.to c.requires.apart);
    }
