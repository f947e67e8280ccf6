-- Nodes as points of the plane.
use Rattle.plane_laws.specs.Plane.{Point}
use Rattle.plane_exact.specs.declared.node.Node.{Node}

-- The point that a node stands for.
abbrev pub point_at : Node → Point
point_at n = record { x = n.x; y = n.y; w = n.w; heavy = n.across.heavy }
