use Rattle.std.proofs.Common.{◌∙◌}
use Rattle.plane_laws.specs.Orders.{compare_fractions}
use Rattle.whole_algebra.proofs.Comparisons.{then_first}
use Rattle.plane_exact.proofs.Sizes.{plain_numerator, plain_weight}
use Rattle.plane_exact.proofs.orders.cmp_nodes.Goals as goal

pub returns-in_default : goal.returns-in_default
returns-in_default c =
    let m = c.args.m.now in
    let n = c.args.n.now in
    let e = c.cmp_fractions.ensures.order
    ∙ (λ i. compare_fractions (plain_numerator m.x m.w m.across i) (plain_weight m.x m.w m.across i)
    (plain_numerator n.x n.w n.across i) (plain_weight n.x n.w n.across i)) in
    record {
      order = then_first (compare_fractions m.x m.w n.x n.w)
          (compare_fractions m.y m.w n.y n.w) c.cmp_fractions.result e c.in_default.not-Equal;
    }
