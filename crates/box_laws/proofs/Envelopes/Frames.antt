-- The envelope of a whole figure holds it; so each common part of two frames holds all that is in neither exterior.
use Rattle.std.proofs.Common.{◌⊎◌, inl, inr, refl}
use Rattle.std.specs.Prelude.{Option, Some, None}
use Rattle.im_matrix.specs.declared.Loc.TheVariants.{Exterior}
use Rattle.plane_laws.specs.Plane.{Point}
use Rattle.plane_exact.specs.Windows.{join_boxes}
use Rattle.plane_exact.specs.declared.window.Window.{Window}
use Rattle.point_set.specs.declared.dim_loc.DimLoc.{DimLoc}
use Rattle.point_set.specs.declared.dim_loc.DimLoc.TheVariants as kind
use Rattle.point_set.specs.declared.extent.Extent.{Extent}
use Rattle.point_set.specs.declared.figure.Figure.{Figure}
use Rattle.point_set.specs.declared.rule.Rule.{Rule}
use Rattle.point_set.specs.Extents.{IsExtent}
use Rattle.point_set.specs.Location.{IsKind, IsLocation}
use Rattle.point_set.specs.Shape.{IsWellShaped}
use Rattle.box_laws.specs.Boxes.{IsInBox, IsCommonPart, HoldsFigure, HoldsCommonPart, LawFrameHolds, join, frame}
use Rattle.figure_laws.proofs.Points.Kinds.{interior_is_covered}
use Rattle.kind_laws.proofs.Location.Decided.{kind_is_decided}
use Rattle.plane_exact.proofs.Laws.{join_holds_first, join_holds_second, within_holds}
use Rattle.box_laws.proofs.Boxes.Sides.{none_inside, in_window}
use Rattle.box_laws.proofs.Envelopes.Hold.{covered_in, line_in, point_in}

-- ---- boxes that are joined
-- what is in the first box, where there is one, is in both together
in_join_left : (u w : Option Window) (p : Point) → IsInBox u p → IsInBox (join u w) p
in_join_left None w p inside = absurd (none_inside inside)
in_join_left (Some box) None p inside = inside
in_join_left (Some box) (Some other) p inside = record {
  box = join_boxes box other;
  is = refl;
  within = within_holds (join_holds_first box other) p (in_window inside);
}

-- and what is in the second
in_join_right : (u w : Option Window) (p : Point) → IsInBox w p → IsInBox (join u w) p
in_join_right None w p inside = inside
in_join_right (Some box) None p inside = absurd (none_inside inside)
in_join_right (Some box) (Some other) p inside = record {
  box = join_boxes box other;
  is = refl;
  within = within_holds (join_holds_second box other) p (in_window inside);
}

-- ---- one figure
-- the envelope of a whole figure holds it
pub frame_holds : (f : Figure) → IsWellShaped f → (rule : Rule) → LawFrameHolds f rule
frame_holds f shaped rule x is p = by (kind_is_decided f shaped rule p)
  where
    of_areas : IsInBox x.areas p → IsInBox (frame x) p
    of_areas h = in_join_left x.areas (join x.lines x.points) p h

    of_lines : IsInBox x.lines p → IsInBox (frame x) p
    of_lines h = in_join_right x.areas (join x.lines x.points) p (in_join_left x.lines x.points p h)

    of_points : IsInBox x.points p → IsInBox (frame x) p
    of_points h = in_join_right x.areas (join x.lines x.points) p (in_join_right x.lines x.points p h)

    by_kind : (k : DimLoc) → IsKind f rule p k → IsLocation f rule p Exterior ⊎ IsInBox (frame x) p
    by_kind kind.AreaInterior h = inr (of_areas (covered_in f shaped rule x is p (interior_is_covered h)))
    by_kind kind.AreaBoundary h = inr (of_areas (covered_in f shaped rule x is p h.0))
    by_kind kind.LineInterior h = inr (of_lines (line_in f shaped rule x is p h.1))
    by_kind kind.LineBoundary h = inr (of_lines (line_in f shaped rule x is p h.1))
    by_kind kind.PointInterior h = inr (of_points (point_in f shaped rule x is p h.2))
    by_kind kind.Exterior h = inl (record { decided_by = kind.Exterior; decides = h; gives = refl })

    by : (k : DimLoc) × IsKind f rule p k → IsLocation f rule p Exterior ⊎ IsInBox (frame x) p
    by k = by_kind k.0 k.1

-- ---- two figures
-- a common part of boxes that hold two figures holds their common part
pub holds_common_part :
    (a b : Figure) (rule : Rule) (u v w : Option Window) → HoldsFigure a rule u → HoldsFigure b rule v → IsCommonPart u v w
    → HoldsCommonPart a b rule w
holds_common_part a b rule u v w holds_a holds_b common p = by (holds_a p) (holds_b p)
  where
    by :
        IsLocation a rule p Exterior ⊎ IsInBox u p → IsLocation b rule p Exterior ⊎ IsInBox v p
        → IsLocation a rule p Exterior ⊎ (IsLocation b rule p Exterior ⊎ IsInBox w p)
    by (inl out) k = inl out
    by (inr h) (inl out) = inr (inl out)
    by (inr h) (inr k) = inr (inr (common p h k))

-- as that of their frames does
pub frames_hold_common_part :
    (a b : Figure) → IsWellShaped a → IsWellShaped b → (rule : Rule) (x y : Extent) → IsExtent a rule x → IsExtent b rule y
    → (w : Option Window) → IsCommonPart (frame x) (frame y) w → HoldsCommonPart a b rule w
frames_hold_common_part a b a_shaped b_shaped rule x y is_x is_y w common =
    holds_common_part a b rule (frame x) (frame y) w (frame_holds a a_shaped rule x is_x) (frame_holds b b_shaped rule y is_y) common
