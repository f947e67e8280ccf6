-- Directions of the code as directions, and their order by angle.
use Rattle.std.specs.Prelude.{ℤ}
use Rattle.std.specs.declared.cmp.Ordering.{Ordering}
use Rattle.plane_laws.specs.Directions.{Direction, bend_of, compare_ways, PointSameWay}
use Rattle.plane_exact.specs.declared.dir.Dir.{Dir}

-- A direction of the code, as a direction.
abbrev pub direction_of : Dir → Direction
direction_of d = record { x = d.dx; y = d.dy; moves = d.way.turned }

-- The cross product of two directions of the code.
abbrev pub bend : Dir → Dir → ℤ
bend d e = bend_of (direction_of d) (direction_of e)

-- Directions of the code by their angle.
abbrev pub compare_angles : Dir → Dir → Ordering
compare_angles d e = compare_ways (direction_of d) (direction_of e)

-- Two directions of the code point the same way.
abbrev pub IsSameDirection : Dir → Dir → Type 0
IsSameDirection d e = PointSameWay (direction_of d) (direction_of e)
