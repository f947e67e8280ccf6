-- Closed boxes of the plane.
use Rattle.std.specs.Prelude.{◌*ℤ◌, ◌≤ℤ◌}
use Rattle.std.specs.Int.{int_max, int_min}
use Rattle.plane_laws.specs.Plane.{Point}
use Rattle.plane_exact.specs.declared.point.Pt.{Pt}
use Rattle.plane_exact.specs.declared.point.Seg.{Seg}
use Rattle.plane_exact.specs.declared.window.Window.{Window}

-- The point is in the box, its sides and corners included.
pub record IsInWindow (box : Window) (p : Point) : Type 0 where
  pub left : (box.low_x *ℤ p.w) ≤ℤ p.x
  pub right : p.x ≤ℤ (box.high_x *ℤ p.w)
  pub bottom : (box.low_y *ℤ p.w) ≤ℤ p.y
  pub top : p.y ≤ℤ (box.high_y *ℤ p.w)

-- Two boxes have a common point.
pub record HasCommonPoint (box other : Window) : Type 0 where
  pub point : Point
  pub here : IsInWindow box point
  pub there : IsInWindow other point

-- No side of the inner box is outside of the outer one.
pub record IsWithin (inner outer : Window) : Type 0 where
  pub left : outer.low_x ≤ℤ inner.low_x
  pub right : inner.high_x ≤ℤ outer.high_x
  pub bottom : outer.low_y ≤ℤ inner.low_y
  pub top : inner.high_y ≤ℤ outer.high_y

-- The least whole box that holds a set of points: it holds them all, and is within each other box that does.
pub record IsLeastWindow (set : Point → Type 0) (box : Window) : Type 0 where
  pub holds : (p : Point) → set p → IsInWindow box p
  pub least : (other : Window) → ((p : Point) → set p → IsInWindow other p) → IsWithin box other

-- The corner of the low sides and the corner of the high sides.
abbrev pub low_corner : Window → Pt
low_corner box = record { x = box.low_x; y = box.low_y }

abbrev pub high_corner : Window → Pt
high_corner box = record { x = box.high_x; y = box.high_y }

-- The segment from the corner of a box's low sides to that of its high sides.
abbrev pub diagonal_of : Window → Seg
diagonal_of box = record { a = low_corner box; b = high_corner box }

-- The least box that holds both.
abbrev pub join_boxes : Window → Window → Window
join_boxes box other =
    record {
      low_x = int_min box.low_x other.low_x;
      low_y = int_min box.low_y other.low_y;
      high_x = int_max box.high_x other.high_x;
      high_y = int_max box.high_y other.high_y;
    }
