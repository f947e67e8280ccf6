-- The order of nodes.
use Rattle.std.specs.declared.cmp.Ordering.{Ordering}
use Rattle.plane_exact.specs.NodePoints.{point_at}
use Rattle.plane_laws.specs.Orders.{compare_points}
use Rattle.plane_exact.specs.declared.node.Node.{Node}

-- Nodes by x, and those of the same x by y.
abbrev pub compare_nodes : Node → Node → Ordering
compare_nodes m n = compare_points (point_at m) (point_at n)
