-- Positions with whole-number coordinates, as points of the plane.
use Rattle.std.specs.Prelude.{pos, neg_ℤ, ◌≤ℤ◌}
use lib.Signed.{lt_z_yes}
use Rattle.plane_laws.specs.Plane.{Point}
use Rattle.plane_exact.specs.Limits.{limit}
use Rattle.plane_exact.specs.declared.point.Pt.{Pt}

-- The point at a position: its weight is 1.
abbrev pub point_of : Pt → Point
point_of p = record { x = p.x; y = p.y; w = pos 1; heavy = lt_z_yes tt }

-- Both coordinates have a size of at most the limit.
pub record IsInLimit (p : Pt) : Type 0 where
  pub left : neg_ℤ (pos limit) ≤ℤ p.x
  pub right : p.x ≤ℤ pos limit
  pub bottom : neg_ℤ (pos limit) ≤ℤ p.y
  pub top : p.y ≤ℤ pos limit
