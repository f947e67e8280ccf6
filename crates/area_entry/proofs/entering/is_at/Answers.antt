use Rattle.std.proofs.Common.{ap, ◌∙◌}
use Rattle.plane_laws.specs.Orders.{compare_points}
use Rattle.plane_exact.specs.Places.{point_of}
use Rattle.plane_exact.specs.NodePoints.{point_at}
use Rattle.fan_order.proofs.Laws.{same_by_test}
use Rattle.area_entry.proofs.entering.is_at.Goals as goal

pub returns : goal.returns
returns c =
    let q = point_at c.args.n.now in
    let order = c.cmp_nodes.ensures.order ∙ ap (λ p. compare_points p q) c.at_point.ensures.point in
    record { at = same_by_test (point_of c.args.p) q c.cmp_nodes.result c.eq.result order c.eq.ensures }
