-- Envelopes and boxes: what they hold, and what is near one.
use Rattle.std.specs.Prelude.{◌≡◌, ◌⊎◌, ◌&&◌, Bool, true, false, not, ℕ, Option, Some, None, int_le}
use Rattle.im_matrix.specs.declared.Loc.TheVariants.{Exterior}
use Rattle.plane_laws.specs.Plane.{Point, IsSamePoint}
use Rattle.plane_exact.specs.Windows.{IsLeastWindow, IsInWindow, HasCommonPoint, join_boxes}
use Rattle.plane_exact.specs.declared.window.Window.{Window}
use Rattle.point_set.specs.declared.extent.Extent.{Extent}
use Rattle.point_set.specs.declared.figure.Figure.{Figure}
use Rattle.point_set.specs.declared.rule.Rule.{Rule}
use Rattle.point_set.specs.Edges.{OwnedEdge, edges_of_figure, MeetsAtPlace}
use Rattle.point_set.specs.Extents.{IsExtent}
use Rattle.point_set.specs.Location.{IsLocation}
use Rattle.point_set.specs.Rings.{is_on_edge}
use Rattle.point_set.specs.Validity.{IsAtPlace}

-- ---- boxes
-- Whether no side of the inner box is outside of the outer one.
abbrev pub is_within : Window → Window → Bool
is_within inner outer =
    (int_le outer.low_x inner.low_x && int_le inner.high_x outer.high_x)
    && (int_le outer.low_y inner.low_y && int_le inner.high_y outer.high_y)

-- Whether a box, where there is one, has a part outside of another; where there is no other, all of it is outside.
abbrev pub sticks_out : Option Window → Option Window → Bool
sticks_out None w = false
sticks_out (Some box) None = true
sticks_out (Some box) (Some w) = not (is_within box w)

-- The least box that holds two boxes, where there are some.
abbrev pub join : Option Window → Option Window → Option Window
join None w = w
join (Some box) None = Some box
join (Some box) (Some other) = Some (join_boxes box other)

-- The envelope of a whole figure: that of its rings, of its lines and of its points.
abbrev pub frame : Extent → Option Window
frame x = join x.areas (join x.lines x.points)

-- A point is in a box, where there is one.
pub record IsInBox (w : Option Window) (p : Point) : Type 0 where
  pub box : Window
  pub is : w ≡ Some box
  pub within : IsInWindow box p

-- A box, where there is one, holds all points that two others hold.
abbrev pub IsCommonPart : Option Window → Option Window → Option Window → Type 0
IsCommonPart u v w = (p : Point) → IsInBox u p → IsInBox v p → IsInBox w p

-- A box, where there is one, holds all points of a figure: all that aren't in its exterior.
abbrev pub HoldsFigure : Figure → Rule → Option Window → Type 0
HoldsFigure f rule w = (p : Point) → IsLocation f rule p Exterior ⊎ IsInBox w p

-- A box, where there is one, holds all points that aren't in the exterior of either figure: as the common part of the two
-- figures' envelopes does.
abbrev pub HoldsCommonPart : Figure → Figure → Rule → Option Window → Type 0
HoldsCommonPart a b rule w = (p : Point) → IsLocation a rule p Exterior ⊎ (IsLocation b rule p Exterior ⊎ IsInBox w p)

-- ---- what is near
-- The least box round a point has a common point with a box.
pub record IsNearBox (w : Window) (v : Point) : Type 0 where
  pub box : Window
  pub least : IsLeastWindow (IsSamePoint v) box
  pub common : HasCommonPoint box w

-- The same of a box, where there is one.
abbrev pub IsNearWindow : Option Window → Point → Type 0
IsNearWindow None v = ⊥
IsNearWindow (Some w) v = IsNearBox w v

-- ---- the laws
-- The envelope of a whole figure holds it.
abbrev pub LawFrameHolds : Figure → Rule → Type 0
LawFrameHolds f rule = (x : Extent) → IsExtent f rule x → HoldsFigure f rule (frame x)

-- Each edge that holds a point near a box meets the box.
abbrev pub LawNearEdgesMeet : Figure → Type 0
LawNearEdgesMeet f =
    (w : Window) (v : Point) → IsNearBox w v → (place : ℕ) (edge : OwnedEdge) → IsAtPlace (edges_of_figure f) place edge
    → is_on_edge v edge.seg ≡ true → MeetsAtPlace w (edges_of_figure f) place
