-- Which edges meet a window: any least box of the edge decides, and an edge that holds a point meets each box round the point.
use Rattle.std.proofs.Common.{ℤ, pos, ◌*ℤ◌, ◌≤ℤ◌, ◌<ℤ◌}
use Rattle.std.specs.Prelude.{◌↔◌}
use Rattle.whole_algebra.proofs.Signs.{<ℤ_weaken, ≤ℤ_trans, scale_≤ℤ_right}
use Rattle.plane_laws.specs.Plane.{Point, IsSamePoint}
use Rattle.plane_laws.proofs.Points.Same.{same_refl}
use Rattle.plane_exact.specs.Windows.{IsInWindow, IsWithin, HasCommonPoint, IsLeastWindow}
use Rattle.plane_exact.specs.declared.point.Seg.{Seg}
use Rattle.plane_exact.specs.declared.window.Window.{Window}
use Rattle.point_set.specs.Edges.{MeetsWindow}
use Rattle.point_set.specs.Validity.{IsOnEdge}

-- a point of a box is in every box round it
in_outer : (inner outer : Window) (p : Point) → IsWithin inner outer → IsInWindow inner p → IsInWindow outer p
in_outer inner outer p within h =
    let heavy : pos 0 ≤ℤ p.w = <ℤ_weaken p.heavy in
    record {
      left = ≤ℤ_trans (scale_≤ℤ_right heavy within.left) h.left;
      right = ≤ℤ_trans h.right (scale_≤ℤ_right heavy within.right);
      bottom = ≤ℤ_trans (scale_≤ℤ_right heavy within.bottom) h.bottom;
      top = ≤ℤ_trans h.top (scale_≤ℤ_right heavy within.top);
    }

-- two least boxes of one set are within each other
pub one_least_window : {set : Point → Type 0} {box other : Window} → IsLeastWindow set box → IsLeastWindow set other → IsWithin box other
one_least_window {set} {box} {other} h k = h.least other k.holds

-- so an edge meets a window exactly where its least box does
pub meets_by_least : (w : Window) (e : Seg) (box : Window) → IsLeastWindow (IsOnEdge e) box → MeetsWindow w e ↔ HasCommonPoint box w
meets_by_least w e box least = (λ m. common m, λ h. record { box = box; least = least; common = h })
  where
    common : MeetsWindow w e → HasCommonPoint box w
    common m = record {
      point = m.common.point;
      here = in_outer m.box box m.common.point (one_least_window m.least least) m.common.here;
      there = m.common.there;
    }

-- an edge that holds a point meets each least box of the point
pub meets_round : (e : Seg) (p : Point) (box w : Window) → IsLeastWindow (IsOnEdge e) box → IsLeastWindow (IsSamePoint p) w → IsOnEdge e p
    → MeetsWindow w e
meets_round e p box w least round on = record {
  box = box;
  least = least;
  common = record { point = p; here = least.holds p on; there = round.holds p (same_refl p) };
}
