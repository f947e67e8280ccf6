-- Pairs of edges of one ring: a common point that isn't their joint.
use Rattle.std.specs.Prelude.{ℕ, List}
use Rattle.plane_laws.specs.Plane.{Point}
use Rattle.plane_exact.specs.declared.point.Seg.{Seg}
use Rattle.point_set.specs.Validity.{IsOnEdge, IsJoint}

-- A point is on both edges and isn't their joint.
pub record HasUnjoinedPoint (edges : List Seg) (i j : ℕ) (e f : Seg) : Type 0 where
  pub p : Point
  pub on_e : IsOnEdge e p
  pub on_f : IsOnEdge f p
  pub unjoined : ¬ IsJoint edges i j e f p
