-- Two nodes are one or they aren't.
use Rattle.std.proofs.Common.{◌≡◌, ◌≢◌, ◌⊎◌, inl, inr, subst}
use Rattle.plane_exact.specs.NodePoints.{point_at}
use Rattle.plane_laws.specs.Plane.{IsSamePoint}
use Rattle.plane_exact.specs.declared.node.Node.{Node}
use Rattle.plane_exact.proofs.Laws.{one_node}
use Rattle.plane_laws.proofs.Points.Same.{same_refl}
use Rattle.meeting_laws.proofs.Ways.OneLine as points

-- nodes that are one have the same point
pub node_point : (m n : Node) → m ≡ n → IsSamePoint (point_at m) (point_at n)
node_point m n e = subst (λ (k : Node). IsSamePoint (point_at m) (point_at k)) e (same_refl (point_at m))

-- two nodes are one or they aren't, as their points
pub same_or_not : (m n : Node) → (m ≡ n) ⊎ (m ≢ n)
same_or_not m n = by (points.same_or_not (point_at m) (point_at n))
  where
    by : IsSamePoint (point_at m) (point_at n) ⊎ (¬ IsSamePoint (point_at m) (point_at n)) → (m ≡ n) ⊎ (m ≢ n)
    by (inl same) = inl (one_node m n same)
    by (inr apart) = inr (λ e. apart (node_point m n e))
