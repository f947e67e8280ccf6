-- The dimension of a set of points, which is a predicate on points (OGC 06-103r4, 6.1.15.1).
use Rattle.std.specs.Prelude.{◌≡◌, pos}
use Rattle.im_matrix.specs.declared.Dim.{Dim}
use Rattle.im_matrix.specs.declared.Dim.TheVariants.{Empty, Zero, One, Two}
use Rattle.plane_laws.specs.Plane.{Point, IsSamePoint, IsOnSegment, IsInTriangle, turn}

-- A triangle with corners not on one line has all its points in the set.
pub record HoldsTriangle (Set : Point → Type 0) : Type 0 where
  pub a : Point
  pub b : Point
  pub c : Point
  pub broad : ¬ (turn a b c ≡ pos 0)
  pub held : (p : Point) → IsInTriangle a b c p → Set p

-- A segment with two different ends has all its points in the set.
pub record HoldsSegment (Set : Point → Type 0) : Type 0 where
  pub a : Point
  pub b : Point
  pub apart : ¬ IsSamePoint a b
  pub held : (p : Point) → IsOnSegment a b p → Set p

-- The set has a point.
pub record HoldsPoint (Set : Point → Type 0) : Type 0 where
  pub p : Point
  pub held : Set p

-- The dimension of a set: Two where it holds a triangle, else One where it holds a segment, else Zero where it has a point,
-- else Empty.
abbrev pub IsDimension : (Point → Type 0) → Dim → Type 0
IsDimension Set Two = HoldsTriangle Set
IsDimension Set One = (¬ HoldsTriangle Set) × HoldsSegment Set
IsDimension Set Zero = (¬ HoldsTriangle Set) × (¬ HoldsSegment Set) × HoldsPoint Set
IsDimension Set Empty = ¬ HoldsPoint Set

-- The set holds what a dimension says: a triangle, a segment, a point, or nothing at all.
abbrev pub ShowsDimension : (Point → Type 0) → Dim → Type 0
ShowsDimension Set Two = HoldsTriangle Set
ShowsDimension Set One = HoldsSegment Set
ShowsDimension Set Zero = HoldsPoint Set
ShowsDimension Set Empty = Unit {0}
