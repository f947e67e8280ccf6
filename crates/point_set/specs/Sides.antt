-- The side of a ring's edges on which its inside lies.
use Rattle.std.specs.Prelude.{◌≡◌, ℕ, ℤ, pos, ◌-ℤ◌, ◌*ℤ◌, ◌<ℤ◌, true, false, List}
use Rattle.plane_laws.specs.Plane.{Point, IsStrictlyBetween}
use Rattle.plane_exact.specs.Places.{point_of}
use Rattle.plane_laws.specs.Directions.{Direction}
use Rattle.plane_exact.specs.declared.point.Pt.{Pt}
use Rattle.plane_exact.specs.declared.point.Seg.{Seg}
use Rattle.point_set.specs.declared.edge.Hand.{Hand}
use Rattle.point_set.specs.declared.edge.Hand.TheVariants as hand
use Rattle.point_set.specs.Rings.{edges_of, is_inside}
use Rattle.point_set.specs.Validity.{IsAtPlace}
use Rattle.plane_laws.specs.Along.{HoldsAlong}

-- The cross product of an edge's way and a direction: positive where the direction points to the left of the edge.
abbrev pub slope : Seg → Direction → ℤ
slope e d = ((e.b.x -ℤ e.a.x) *ℤ d.y) -ℤ ((e.b.y -ℤ e.a.y) *ℤ d.x)

-- A direction points to the left of an edge, or to its right.
abbrev pub PointsTo : Hand → Seg → Direction → Type 0
PointsTo hand.Left e d = pos 0 <ℤ slope e d
PointsTo hand.Right e d = slope e d <ℤ pos 0
PointsTo hand.Line e d = ⊥

-- The other side.
abbrev pub other_hand : Hand → Hand
other_hand hand.Left = hand.Right
other_hand hand.Right = hand.Left
other_hand hand.Line = hand.Line

-- From every point strictly between the ends of an edge, along every direction that points to one hand of it, the set holds.
abbrev pub HoldsBeside : (Point → Type 0) → Seg → Hand → Type 0
HoldsBeside Set e side =
    (p : Point) → IsStrictlyBetween (point_of e.a) (point_of e.b) p → (d : Direction) → PointsTo side e d → HoldsAlong Set p d

-- The inside of a ring lies on one hand of every edge: near each point strictly between an edge's ends, the points on that
-- hand are inside the ring, and those on the other hand aren't.
pub record IsInsideHand (ring : List Pt) (side : Hand) : Type 0 where
  pub sided : ¬ (side ≡ hand.Line)
  pub inside : (place : ℕ) (e : Seg) → IsAtPlace (edges_of ring) place e → HoldsBeside (λ q. is_inside q ring ≡ true) e side
  pub outside : (place : ℕ) (e : Seg) → IsAtPlace (edges_of ring) place e → HoldsBeside (λ q. is_inside q ring ≡ false) e (other_hand side)
