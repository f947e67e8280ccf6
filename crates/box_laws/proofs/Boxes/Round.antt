-- Round each point there is a least box. So what isn't near a box isn't in it, and nearness is decided by any least box round the point.
use Rattle.std.proofs.Common.{◌≡◌, ◌⊎◌, inl, inr, ◌<◌, ℤ, pos, ◌+ℤ◌, ◌-ℤ◌, ◌*ℤ◌, neg_ℤ, ◌≤ℤ◌, ◌<ℤ◌, unsigned_abs, arith}
use Rattle.std.specs.Prelude.{◌↔◌, Option, Some, None}
use Rattle.std.specs.Int.{int_max, int_min}
use Rattle.std.proofs.lemmas.Int.{ints, quot-rem, rem_below}
use Rattle.std.specs.Int.RustNames.{int_div, int_rem}
use Rattle.whole_algebra.proofs.Laws.{linear, +ℤ-*ℤ, -ℤ-*ℤ, one-*ℤ}
use Rattle.whole_algebra.proofs.Signs.{by_order, by_sign}
use Rattle.plane_laws.specs.Plane.{Point, IsSamePoint}
use Rattle.plane_exact.specs.Nodes.{IsRange}
use Rattle.plane_exact.specs.Windows.{IsInWindow, IsLeastWindow, HasCommonPoint}
use Rattle.plane_exact.specs.declared.window.Window.{Window}
use Rattle.box_laws.specs.Boxes.{IsInBox, IsNearBox, IsNearWindow}
use Rattle.plane_laws.proofs.Points.Same.{same_refl, same_sym, same_trans}
use Rattle.plane_exact.proofs.Laws.{common_point, least_of_point, low_at_most_high}
use Rattle.figure_laws.proofs.Edges.Windows.{one_least_window}
use Rattle.plane_exact.proofs.Laws.{within_holds}
use Rattle.box_laws.proofs.Boxes.Sides.{none_inside, in_window}

-- the whole numbers next to a fraction
record HasRange (x w : ℤ) : Type 0 where
  pub low : ℤ
  pub high : ℤ
  pub is : IsRange x w low high

-- by the quotient and the remainder
range_of : (x w : ℤ) → pos 0 <ℤ w → HasRange x w
range_of x w hw =
    by_sign r (λ h. record { low = q -ℤ pos 1; high = q; is = below h }) (λ h. record { low = q; high = q; is = exact h })
    (λ h. record { low = q; high = q +ℤ pos 1; is = above h })
  where
    some : 0 < unsigned_abs w
    some = omega (arith, ints, hw)

    q : ℤ
    q = int_div x w

    r : ℤ
    r = int_rem x w

    division : (q *ℤ w) +ℤ r ≡ x
    division = quot-rem x w

    small : (neg_ℤ w <ℤ r) × (r <ℤ w)
    small = (omega (arith, ints, hw, rem_below x w some), omega (arith, ints, hw, rem_below x w some))

    less : ((q -ℤ pos 1) *ℤ w ≡ (q *ℤ w) -ℤ w) × ((q +ℤ pos 1) *ℤ w ≡ (q *ℤ w) +ℤ w)
    less = (omega (arith, linear, -ℤ-*ℤ q (pos 1) w, one-*ℤ w), omega (arith, linear, +ℤ-*ℤ q (pos 1) w, one-*ℤ w))

    below : r <ℤ pos 0 → IsRange x w (q -ℤ pos 1) q
    below h = record {
      below = omega (arith, linear, division, small.0, less.0);
      above = omega (arith, linear, division, h);
      lowest = omega (arith, linear, division, h, +ℤ-*ℤ (q -ℤ pos 1) (pos 1) w, less.0, one-*ℤ w);
      highest = omega (arith, linear, division, small.0, less.0);
    }

    exact : r ≡ pos 0 → IsRange x w q q
    exact h = record {
      below = omega (arith, linear, division, h);
      above = omega (arith, linear, division, h);
      lowest = omega (arith, linear, division, h, hw, less.1);
      highest = omega (arith, linear, division, h, hw, less.0);
    }

    above : pos 0 <ℤ r → IsRange x w q (q +ℤ pos 1)
    above h = record {
      below = omega (arith, linear, division, h);
      above = omega (arith, linear, division, small.1, less.1);
      lowest = omega (arith, linear, division, small.1, less.1);
      highest = omega (arith, linear, division, h, -ℤ-*ℤ (q +ℤ pos 1) (pos 1) w, less.1, one-*ℤ w);
    }

-- the least box round a point
pub record HasRoundBox (v : Point) : Type 0 where
  pub box : Window
  pub least : IsLeastWindow (IsSamePoint v) box

-- by the whole numbers next to both coordinates
pub round_box : (v : Point) → HasRoundBox v
round_box v =
    let across = range_of v.x v.w v.heavy in
    let above = range_of v.y v.w v.heavy in
    let box : Window = record { low_x = across.low; low_y = above.low; high_x = across.high; high_y = above.high } in
    record { box = box; least = least_of_point box v across.is above.is }

-- a point in a box is near it
pub in_is_near : (w : Window) (v : Point) → IsInWindow w v → IsNearBox w v
in_is_near w v h =
    let r = round_box v in
    record { box = r.box; least = r.least; common = record { point = v; here = r.least.holds v (same_refl v); there = h } }

-- a point that is the same as a near one is near
pub near_same : (w : Window) {v p : Point} → IsSamePoint v p → IsNearBox w p → IsNearBox w v
near_same w same near = record {
  box = near.box;
  least = record {
    holds = λ q h. near.least.holds q (same_trans (same_sym same) h);
    least = λ other all. near.least.least other (λ q h. all q (same_trans same h));
  };
  common = near.common;
}

-- so what isn't near isn't in it
pub far_is_out : (w : Option Window) (v : Point) → ¬ IsNearWindow w v → ¬ IsInBox w v
far_is_out None v far inside = none_inside inside
far_is_out (Some w) v far inside = far (in_is_near w v (in_window inside))

-- ---- nearness is decided
-- a point is near a box exactly where any least box round it has a common point with the box
pub near_by_least : (w box : Window) (v : Point) → IsLeastWindow (IsSamePoint v) box → IsNearBox w v ↔ HasCommonPoint box w
near_by_least w box v least = (λ near. common near, λ h. record { box = box; least = least; common = h })
  where
    common : IsNearBox w v → HasCommonPoint box w
    common near = record {
      point = near.common.point;
      here = within_holds (one_least_window near.least least) near.common.point near.common.here;
      there = near.common.there;
    }

-- two boxes have a common point or they haven't
common_decided : (box w : Window) → HasCommonPoint box w ⊎ (¬ HasCommonPoint box w)
common_decided box w =
    by (at_most (int_max box.low_x w.low_x) (int_min box.high_x w.high_x))
    (at_most (int_max box.low_y w.low_y) (int_min box.high_y w.high_y))
  where
    at_most : (x y : ℤ) → (x ≤ℤ y) ⊎ (¬ (x ≤ℤ y))
    at_most x y =
        by_order x y (λ h. inl (omega (arith, linear, h))) (λ h. inl (omega (arith, linear, h)))
        (λ h. inr (λ k. omega (arith, linear, h, k)))

    by :
        (int_max box.low_x w.low_x ≤ℤ int_min box.high_x w.high_x) ⊎ (¬ (int_max box.low_x w.low_x ≤ℤ int_min box.high_x w.high_x))
        → (int_max box.low_y w.low_y ≤ℤ int_min box.high_y w.high_y) ⊎ (¬ (int_max box.low_y w.low_y ≤ℤ int_min box.high_y w.high_y))
        → HasCommonPoint box w ⊎ (¬ HasCommonPoint box w)
    by (inl h) (inl k) = inl (common_point box w h k)
    by (inr h) k = inr (λ common. h (low_at_most_high box w common).0)
    by (inl h) (inr k) = inr (λ common. k (low_at_most_high box w common).1)

-- so a point is near a box or it isn't
pub near_box_decided : (w : Window) (v : Point) → IsNearBox w v ⊎ (¬ IsNearBox w v)
near_box_decided w v =
    let r = round_box v in
    elim (common_decided r.box w) [
      | inl h ↦ inl ((near_by_least w r.box v r.least).1 h)
      | inr none ↦ inr (λ near. none ((near_by_least w r.box v r.least).0 near))
    ]

-- and near a box, where there is one
pub near_window_decided : (w : Option Window) (v : Point) → IsNearWindow w v ⊎ (¬ IsNearWindow w v)
near_window_decided None v = inr (λ near. near)
near_window_decided (Some w) v = near_box_decided w v
