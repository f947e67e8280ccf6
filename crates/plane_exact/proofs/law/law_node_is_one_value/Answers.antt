use Rattle.std.proofs.Common.{subst}
use Rattle.plane_exact.specs.NodePoints.{point_at}
use Rattle.plane_laws.specs.Plane.{IsSamePoint}
use Rattle.plane_exact.specs.declared.node.Node.{Node}
use Rattle.plane_exact.proofs.NodeValues.{one_node}
use Rattle.plane_laws.proofs.Points.Same.{same_refl}
use Rattle.plane_exact.proofs.law.law_node_is_one_value.Goals as goal

pub returns : goal.returns
returns c =
    record {
      one = (
        λ e. subst (λ (n : Node). IsSamePoint (point_at c.args.m) (point_at n)) e
            (same_refl (point_at c.args.m)),
        one_node c.args.m c.args.n,
      );
    }
