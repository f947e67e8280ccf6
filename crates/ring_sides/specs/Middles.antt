-- The middle of an edge, and the side of the edge on which a short ray from there goes.
use Rattle.std.specs.Prelude.{pos, ◌+ℤ◌, Bool, ◌&&◌, ◌||◌, int_lt}
use Rattle.std.specs.Ordering.{int_eq}
use lib.Signed.{lt_z_yes}
use Rattle.plane_laws.specs.Plane.{Point}
use Rattle.plane_exact.specs.declared.point.Seg.{Seg}

-- The point halfway between an edge's ends.
abbrev pub middle_of : Seg → Point
middle_of e = record { x = e.a.x +ℤ e.b.x; y = e.a.y +ℤ e.b.y; w = pos 2; heavy = lt_z_yes tt }

-- Whether a ray to the right, or up where the edge is level, goes to the edge's left: of an edge that falls, and of a level
-- one that goes to the right.
abbrev pub is_ray_left : Seg → Bool
is_ray_left e = int_lt e.b.y e.a.y || (int_eq e.b.y e.a.y && int_lt e.a.x e.b.x)
