-- The least box round two boxes.
use Rattle.std.proofs.Common.{◌≤ℤ◌, ℤ, inl, inr, arith}
use Rattle.std.proofs.lemmas.Int.{ints, clamps}
use Rattle.plane_exact.specs.Places.{point_of}
use Rattle.plane_exact.specs.Windows.{IsInWindow, IsWithin, IsLeastWindow, join_boxes, low_corner, high_corner}
use Rattle.plane_exact.proofs.Laws.{join_holds_first, join_holds_second, within_holds}
use Rattle.plane_exact.specs.declared.point.Seg.{Seg}
use Rattle.plane_exact.specs.declared.window.Window.{Window}
use Rattle.edge_index.specs.Rows.{window_of}
use Rattle.edge_index.specs.Trees.{IsInEither}

-- no low side of the box is beyond the high one
pub record IsProper (box : Window) : Type 0 where
  pub across : box.low_x ≤ℤ box.high_x
  pub above : box.low_y ≤ℤ box.high_y

pub proper_of : (seg : Seg) → IsProper (window_of seg)
proper_of seg = record { across = omega (arith, ints, clamps); above = omega (arith, ints, clamps) }

pub proper_joined : (box other : Window) → IsProper box → IsProper other → IsProper (join_boxes box other)
proper_joined box other h k = record { across = omega (arith, ints, clamps, h.across); above = omega (arith, ints, clamps, h.above) }

-- a proper box has its corners
has_low : (box : Window) → IsProper box → IsInWindow box (point_of (low_corner box))
has_low box h =
    record {
      left = omega (arith, ints);
      right = omega (arith, ints, h.across);
      bottom = omega (arith, ints);
      top = omega
          (arith, ints, h.above);
    }

has_high : (box : Window) → IsProper box → IsInWindow box (point_of (high_corner box))
has_high box h =
    record {
      left = omega (arith, ints, h.across);
      right = omega (arith, ints);
      bottom = omega (arith, ints, h.above);
      top = omega
          (arith, ints);
    }

-- a box that holds both corners of each of two boxes is round the joined one
round_corners :
    (box one other : Window) → IsInWindow box (point_of (low_corner one)) → IsInWindow box (point_of (high_corner one))
    → IsInWindow box (point_of (low_corner other)) → IsInWindow box (point_of (high_corner other)) → IsWithin (join_boxes one other) box
round_corners box one other a b c d = record {
  left = omega (arith, ints, clamps, a.left, c.left);
  right = omega (arith, ints, clamps, b.right, d.right);
  bottom = omega (arith, ints, clamps, a.bottom, c.bottom);
  top = omega (arith, ints, clamps, b.top, d.top);
}

-- the joined box is the least one that holds two proper boxes
pub least_joined : (one other : Window) → IsProper one → IsProper other → IsLeastWindow (IsInEither one other) (join_boxes one other)
least_joined one other h k = record {
  holds =
      λ p. elim [
        | inl i ↦ within_holds (join_holds_first one other) p i
        | inr i ↦ within_holds (join_holds_second one other) p i
      ];
  least =
      λ box all. round_corners box one other (all _ (inl (has_low one h))) (all _ (inl (has_high one h))) (all _ (inr (has_low other k)))
      (all _ (inr (has_high other k)));
}
