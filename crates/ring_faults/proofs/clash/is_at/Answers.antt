use Rattle.std.proofs.Common.{sym, subst}
use Rattle.plane_exact.specs.NodePoints.{point_at}
use Rattle.plane_laws.specs.Plane.{Point, IsSamePoint}
use Rattle.plane_exact.proofs.Laws.{one_node}
use Rattle.ring_faults.proofs.NodesApart.{node_point}
use Rattle.ring_faults.proofs.clash.is_at.Goals as goal

pub returns : goal.returns
returns c =
    let at = c.at_point.result in
    let node = c.args.node.now in
    record {
      same = (
        λ t. subst (λ (p : Point). IsSamePoint p (point_at node)) c.at_point.ensures.point
            (node_point at node (c.is_same_node.ensures.same.0 t)),
        λ h. c.is_same_node.ensures.same.1
            (one_node at node (subst (λ (p : Point). IsSamePoint p (point_at node)) (sym c.at_point.ensures.point) h)),
      );
    }
