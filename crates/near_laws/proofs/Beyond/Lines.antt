-- What sticks out of the common part of the envelopes of points, of line ends and of lines shows a point or a segment there.
use Rattle.std.proofs.Common.{◌≡◌, ◌≢◌, ◌⊎◌, inl, inr, suc, ◌+◌, true, false, ◌++◌, refl, arith}
use Rattle.std.specs.Prelude.{Option}
use Rattle.std.proofs.lemmas.Bool.{or_left, or_right, false_from_ne_true}
use Rattle.plane_laws.specs.Plane.{Point}
use Rattle.plane_laws.specs.Directions.{Direction}
use Rattle.plane_laws.specs.Along.{HoldsAlong}
use Rattle.plane_exact.specs.Places.{point_of}
use Rattle.plane_exact.specs.declared.window.Window.{Window}
use Rattle.im_matrix.specs.Cells.{cell}
use Rattle.im_matrix.specs.declared.Loc.{Loc}
use Rattle.im_matrix.specs.declared.Loc.TheVariants.{Interior, Boundary, Exterior}
use Rattle.point_set.specs.declared.dim_loc.DimLoc.{DimLoc}
use Rattle.point_set.specs.declared.figure.Figure.{Figure}
use Rattle.point_set.specs.declared.rule.Rule.{Rule}
use Rattle.point_set.specs.Dimension.{HoldsSegment, HoldsPoint}
use Rattle.point_set.specs.Germ.{IsPairGerm}
use Rattle.point_set.specs.Lines.{is_at_some, is_at_still_line, ends_of_lines}
use Rattle.point_set.specs.Location.{is_covered, is_on_line, is_at_point, is_line_boundary, IsKind, IsLocation, part_of}
use Rattle.point_set.specs.Relation.{IsInCell}
use Rattle.point_set.specs.Visible.{AreValid}
use Rattle.point_set.specs.declared.extent.Extent.{Extent}
use Rattle.point_set.specs.Extents.{IsExtent, moving_positions, still_positions, boundary_ends}
use Rattle.point_set.specs.declared.dim_loc.DimLoc.TheVariants as kind
use Rattle.box_laws.specs.Boxes.{IsInBox, HoldsCommonPart, sticks_out}
use Rattle.plane_laws.proofs.Near.Away.{away_point, away_point_is, away_near, far_for}
use Rattle.figure_laws.proofs.Points.Kinds.{one_kind, one_part}
use Rattle.stay_laws.proofs.Stays.Germs.{kind_settles}
use Rattle.near_laws.proofs.Beyond.Positions.{far_position}
use Rattle.near_laws.proofs.Beyond.Kept.{some_append, moving_on, still_at, ends_on, kept_bound}
use Rattle.near_laws.proofs.Beyond.Ways.{line_way}
use Rattle.cell_laws.proofs.Germs.Along.{germ_holds_segment}
use Rattle.box_laws.proofs.Boxes.Sides.{room_off}
use Rattle.box_laws.proofs.Envelopes.Hold.{stays_in, covered_in, line_in, bound_at_end}
use Rattle.near_laws.proofs.Far.Bare.{bare_point}
use Rattle.near_laws.proofs.Far.Shows.{no_bound}

-- a figure and another, and what the first has outside of the common part
module _ (a b : Figure) (valid : AreValid a b) (rule : Rule) (x : Extent) (is : IsExtent a rule x) (w : Option Window)
    (holds : HoldsCommonPart a b rule w)
  where
    -- outside of the common part, what isn't exterior to the first is exterior to the second
    cell_out :
        (q : Point) → ¬ IsInBox w q → (part : Loc) → part ≢ Exterior → IsLocation a rule q part → IsInCell a b rule (cell part Exterior) q
    cell_out q out part some at = by (holds q)
      where
        by : IsLocation a rule q Exterior ⊎ (IsLocation b rule q Exterior ⊎ IsInBox w q) → IsInCell a b rule (cell part Exterior) q
        by (inl h) = absurd (some (one_part at h))
        by (inr (inl h)) = record { in_a = at; in_b = h }
        by (inr (inr h)) = absurd (out h)

    -- the same along a direction
    pub germ_out :
        (q : Point) → ¬ IsInBox w q → (d : Direction) (part : Loc) → part ≢ Exterior → HoldsAlong (λ p. IsLocation a rule p part) q d
        → IsPairGerm a b rule q d (cell part Exterior)
    germ_out q out d part some along =
        let r = room_off w q out in
        record {
          from = along.from + far_for d r.n;
          holds = λ n far p away.
              cell_out p (r.off r.n (omega arith) p (away_near r.n (omega (arith, far)) away)) part some
              (along.holds n (omega (arith, far)) p away);
        }

    -- so a segment is shown
    pub segment_out :
        (q : Point) → ¬ IsInBox w q → (d : Direction) (part : Loc) → part ≢ Exterior → HoldsAlong (λ p. IsLocation a rule p part) q d
        → HoldsSegment (IsInCell a b rule (cell part Exterior))
    segment_out q out d part some along =
        germ_holds_segment a b valid rule q d (cell part Exterior) (germ_out q out d part some along)

    -- where the areas don't stick out, nothing outside is covered
    uncovered_out : sticks_out x.areas w ≡ false → (q : Point) → ¬ IsInBox w q → is_covered a q ≡ false
    uncovered_out within q out =
        false_from_ne_true (is_covered a q) (λ on. out (stays_in x.areas w within q (covered_in a valid.a_shaped rule x is q on)))

    -- where the lines don't, no line is there
    unlined_out : sticks_out x.lines w ≡ false → (q : Point) → ¬ IsInBox w q → is_on_line a q ≡ false
    unlined_out within q out =
        false_from_ne_true (is_on_line a q) (λ on. out (stays_in x.lines w within q (line_in a valid.a_shaped rule x is q on)))

    -- ---- points
    -- a point outside, or a still line
    at_points : (q : Point) → is_at_some q (a.points ++ still_positions a.lines) ≡ true → is_at_point a q ≡ true
    at_points q h = elim (some_append q a.points (still_positions a.lines) h) [
      | inl k ↦ or_left (is_at_some q a.points) (is_at_still_line q a.lines) k
      | inr k ↦ or_right (is_at_some q a.points) (is_at_still_line q a.lines) (still_at q a.lines k)
    ]

    -- where only points stick out, one of them is shown
    pub points_shown :
        sticks_out x.areas w ≡ false → sticks_out x.lines w ≡ false → sticks_out x.points w ≡ true
        → HoldsPoint (IsInCell a b rule (cell Interior Exterior))
    points_shown no_areas no_lines some =
        let far = far_position (a.points ++ still_positions a.lines) x.points w is.points some in
        let q = point_of far.p in
        record {
          p = q;
          held = cell_out q far.out Interior (λ e. cc)
              (record {
                decided_by = kind.PointInterior;
                decides = (uncovered_out no_areas q far.out, unlined_out no_lines q far.out, at_points q far.at);
                gives = refl;
              });
        }

    -- ---- line ends
    -- where areas don't stick out and boundary ends do, one of these is shown
    pub ends_shown : sticks_out x.areas w ≡ false → sticks_out x.ends w ≡ true → HoldsPoint (IsInCell a b rule (cell Boundary Exterior))
    ends_shown no_areas some =
        let ends = ends_of_lines a.lines in
        let far = far_position (boundary_ends rule ends ends) x.ends w is.ends some in
        let q = point_of far.p in
        let bound = kept_bound rule ends q ends far.at in
        record {
          p = q;
          held = cell_out q far.out Boundary (λ e. cc)
              (record {
                decided_by = kind.LineBoundary;
                decides = (uncovered_out no_areas q far.out, ends_on q a.lines (bound_at_end rule ends q bound), bound);
                gives = refl;
              });
        }

    -- ---- lines
    -- along a line outside, the kind is line interior
    along_line :
        sticks_out x.areas w ≡ false → (q : Point) → ¬ IsInBox w q → (d : Direction) → HoldsAlong (λ p. is_on_line a p ≡ true) q d
        → HoldsAlong (λ p. IsLocation a rule p Interior) q d
    along_line no_areas q out d on = by (kind_settles a valid.a_shaped valid.a_valid rule q d)
      where
        by : (k : DimLoc) × HoldsAlong (λ p. IsKind a rule p k) q d → HoldsAlong (λ p. IsLocation a rule p Interior) q d
        by s = record {
          from = s.1.from;
          holds = λ n far p away.
              record { decided_by = s.0; decides = s.1.holds n far p away; gives = λ i. part_of (of_line i) };
        }
          where
            of_line : s.0 ≡ kind.LineInterior
            of_line =
                let ends = ends_of_lines a.lines in
                let t = bare_point w ends q d (s.1.from + on.from) out in
                let far = t.far in
                let p = away_point q d t.m in
                let away = away_point_is q d t.m in
                one_kind a rule p s.0 kind.LineInterior (s.1.holds (suc t.m) (omega (arith, far)) p away) (
                  uncovered_out no_areas p t.out,
                  on.holds (suc t.m) (omega (arith, far)) p away,
                  false_from_ne_true (is_line_boundary a rule p) (no_bound a rule p t.bare),
                )

    -- where lines stick out and areas don't, a segment of the interior is shown
    pub lines_shown : sticks_out x.areas w ≡ false → sticks_out x.lines w ≡ true → HoldsSegment (IsInCell a b rule (cell Interior Exterior))
    lines_shown no_areas some =
        let far = far_position (moving_positions a.lines) x.lines w is.lines some in
        let q = point_of far.p in
        let way = line_way a valid.a_shaped q (moving_on q a.lines far.at) in
        segment_out q far.out way.d Interior (λ e. cc) (along_line no_areas q far.out way.d way.along)
