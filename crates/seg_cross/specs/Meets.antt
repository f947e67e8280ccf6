-- The common points of two segments.
use Rattle.std.specs.Prelude.{◌≡◌, pos}
use Rattle.plane_exact.specs.NodePoints.{point_at}
use Rattle.plane_laws.specs.Orders.{IsBefore}
use Rattle.plane_exact.specs.Places.{IsInLimit, point_of}
use Rattle.plane_laws.specs.Plane.{Point, IsSamePoint, IsOnSegment, turn}
use Rattle.plane_exact.specs.declared.point.Pt.{Pt}
use Rattle.plane_exact.specs.declared.point.Seg.{Seg}
use Rattle.seg_cross.specs.Sides.{IsOneSide}
use Rattle.seg_cross.specs.declared.answer.Meet.{Meet}
use Rattle.seg_cross.specs.declared.answer.Meet.TheVariants.{Apart, At, Along}

-- p is on the segment s, ends included.
abbrev pub IsOn : Seg → Point → Type 0
IsOn s p = IsOnSegment (point_of s.a) (point_of s.b) p

-- p is on both segments.
pub record IsCommon (s t : Seg) (p : Point) : Type 0 where
  pub first : IsOn s p
  pub second : IsOn t p

-- n is on both segments, and nothing else is.
pub record IsOnlyCommon (s t : Seg) (n : Point) : Type 0 where
  pub common : IsCommon s t n
  pub only : (p : Point) → IsCommon s t p → IsSamePoint p n

-- The points on both segments are those of the segment from p to q, and p is before q by x and then by y.
pub record IsOverlap (s t : Seg) (p q : Pt) : Type 0 where
  pub ordered : IsBefore (point_of p) (point_of q)
  pub covered : (r : Point) → IsCommon s t r → IsOnSegment (point_of p) (point_of q) r
  pub common : (r : Point) → IsOnSegment (point_of p) (point_of q) r → IsCommon s t r

-- The answer says exactly which points are on both segments.
abbrev pub IsMeet : Seg → Seg → Meet → Type 0
IsMeet s t Apart = (p : Point) → ¬ IsCommon s t p
IsMeet s t (At n) = IsOnlyCommon s t (point_at n)
IsMeet s t (Along p q) = IsOverlap s t p q

-- The ends of an overlap are within the limit on coordinates.
abbrev pub HasEndsInLimit : Meet → Type 0
HasEndsInLimit Apart = Unit {0}
HasEndsInLimit (At n) = Unit {0}
HasEndsInLimit (Along p q) = IsInLimit p × IsInLimit q

-- Both ends of t are on the line through s.
pub record AreOnOneLine (s t : Seg) : Type 0 where
  pub first : turn (point_of s.a) (point_of s.b) (point_of t.a) ≡ pos 0
  pub second : turn (point_of s.a) (point_of s.b) (point_of t.b) ≡ pos 0

-- The ends of t aren't on one side of the line through s, and the two lines aren't parallel.
pub record AreBothSides (s t : Seg) : Type 0 where
  pub sides : ¬ IsOneSide (turn (point_of s.a) (point_of s.b) (point_of t.a)) (turn (point_of s.a) (point_of s.b) (point_of t.b))
  pub slanted : ¬ (turn (point_of s.a) (point_of s.b) (point_of t.a) ≡ turn (point_of s.a) (point_of s.b) (point_of t.b))
