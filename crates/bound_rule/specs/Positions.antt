-- The order of positions.
use Rattle.std.specs.declared.cmp.Ordering.{Ordering}
use Rattle.plane_laws.specs.Orders.{compare_points}
use Rattle.plane_exact.specs.Places.{point_of}
use Rattle.plane_exact.specs.declared.point.Pt.{Pt}

-- Positions by x, and those of the same x by y.
abbrev pub compare_positions : Pt → Pt → Ordering
compare_positions p q = compare_points (point_of p) (point_of q)
