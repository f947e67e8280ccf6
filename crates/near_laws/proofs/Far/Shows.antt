-- What is seen at a point outside of the common part of two figures is no more than their envelopes tell.
use Rattle.std.proofs.Common.{◌≡◌, ◌⊎◌, inl, inr, ℕ, suc, ◌+◌, ◌≤◌, Bool, true, false, List, [], ◌∷◌, ◌++◌}
use Rattle.std.proofs.Common.{ap, refl, sym, subst, ◌∙◌, arith}
use Rattle.std.specs.Prelude.{Option}
use Rattle.std.proofs.lemmas.Bool.{true≢false, or_from}
use Rattle.plane_laws.specs.Plane.{Point}
use Rattle.plane_laws.specs.Directions.{Direction}
use Rattle.plane_exact.specs.Orders.{direction_of}
use Rattle.plane_exact.specs.declared.point.Pt.{Pt}
use Rattle.plane_exact.specs.declared.window.Window.{Window}
use Rattle.im_matrix.specs.Cells.{rank}
use Rattle.im_matrix.specs.declared.Cell.{Cell}
use Rattle.im_matrix.specs.declared.Dim.{Dim}
use Rattle.im_matrix.specs.declared.Dim.TheVariants.{Empty, Zero, One, Two}
use Rattle.im_matrix.specs.declared.Loc.{Loc}
use Rattle.im_matrix.specs.declared.Loc.TheVariants.{Interior, Boundary, Exterior}
use Rattle.point_set.specs.declared.dim_loc.DimLoc.{DimLoc}
use Rattle.point_set.specs.declared.figure.Figure.{Figure}
use Rattle.point_set.specs.declared.rule.Rule.{Rule}
use Rattle.point_set.specs.Germ.{IsPairGerm}
use Rattle.point_set.specs.Lines.{is_at, is_at_some, is_at_still_line, is_on_lines, ends_of_lines}
use Rattle.point_set.specs.Location.{is_covered, is_on_line, is_at_point, is_line_boundary, IsKind, IsLocation, part_of, edges_of_rings}
use Rattle.point_set.specs.Relation.{IsInCell}
use Rattle.point_set.specs.Rings.{edges_of, is_on_edge, is_on_edges}
use Rattle.point_set.specs.Shape.{IsWellShaped}
use Rattle.point_set.specs.Nodes.{all_positions, positions_of_ways, rings_of_areas, segs_of, segs_of_both}
use Rattle.point_set.specs.Visible.{AreValid}
use Rattle.point_set.specs.Samples.{IsSampleAt, IsSeenInSector}
use Rattle.point_set.specs.declared.extent.Extent.{Extent}
use Rattle.point_set.specs.Extents.{IsExtent}
use Rattle.point_set.specs.declared.dim_loc.DimLoc.TheVariants as kind
use Rattle.box_laws.specs.Boxes.{IsInBox, HoldsCommonPart, sticks_out}
use Rattle.near_laws.specs.Near.{interior_by, boundary_by, beyond, beyond_parts, beyond_cell}
use Rattle.near_laws.specs.Near.{LawFarShowsNoMore}
use Rattle.plane_laws.proofs.Near.Away.{away_point, away_point_is}
use Rattle.plane_laws.proofs.Segments.Mixes.{start_on_segment}
use Rattle.figure_laws.proofs.Edges.Lists.{none_append, segs_are}
use Rattle.figure_laws.proofs.Points.Kinds.{one_part, interior_is_covered}
use Rattle.stay_laws.proofs.Even.Even.{still_none}
use Rattle.stay_laws.proofs.Stays.OffEdges.{interior_off_edges, no_position}
use Rattle.cell_laws.proofs.Free.Ways.{free_in_sector}
use Rattle.box_laws.proofs.Boxes.Round.{far_is_out}
use Rattle.box_laws.proofs.Envelopes.Hold.{shows_out, covered_in, line_in, point_in, end_in, bound_at_end}
use Rattle.near_laws.proofs.Far.Bare.{bare_point}

-- ---- what four envelopes tell
-- areas: Two
interior_two : (a l p : Bool) → a ≡ true → 3 ≤ rank (interior_by a l p)
interior_two a l p h = subst (λ z. 3 ≤ rank (interior_by z l p)) (sym h) (omega arith)

-- lines: One at least
interior_one : (a l p : Bool) → l ≡ true → 2 ≤ rank (interior_by a l p)
interior_one true l p h = omega arith
interior_one false l p h = subst (λ z. 2 ≤ rank (interior_by false z p)) (sym h) (omega arith)

-- points: Zero at least
interior_zero : (a l p : Bool) → p ≡ true → 1 ≤ rank (interior_by a l p)
interior_zero true l p h = omega arith
interior_zero false true p h = omega arith
interior_zero false false p h = subst (λ z. 1 ≤ rank (interior_by false false z)) (sym h) (omega arith)

-- areas: One
boundary_one : (a e : Bool) → a ≡ true → 2 ≤ rank (boundary_by a e)
boundary_one a e h = subst (λ z. 2 ≤ rank (boundary_by z e)) (sym h) (omega arith)

-- ends: Zero at least
boundary_zero : (a e : Bool) → e ≡ true → 1 ≤ rank (boundary_by a e)
boundary_zero true e h = omega arith
boundary_zero false e h = subst (λ z. 1 ≤ rank (boundary_by false z)) (sym h) (omega arith)

-- ---- no position, no point and no end
-- at no position is at no point
no_point : (f : Figure) (q : Point) → is_at_some q (all_positions f) ≡ false → is_at_point f q ≡ false
no_point f q h =
    let both = none_append (is_at q) f.points (positions_of_ways f.lines ++ positions_of_ways (rings_of_areas f.areas)) h in
    let lines = none_append (is_at q) (positions_of_ways f.lines) (positions_of_ways (rings_of_areas f.areas)) both.1 in
    or_from (is_at_some q f.points) (is_at_still_line q f.lines) both.0 (still_none q f.lines lines.0)

-- on no edge is on no line
lines_off : (q : Point) (lines : List (List Pt)) → is_on_edges q (edges_of_rings lines) ≡ false → is_on_lines q lines ≡ false
lines_off q [] h = refl
lines_off q (line ∷ lines) h =
    let both = none_append (is_on_edge q) (edges_of line) (edges_of_rings lines) h in
    or_from (is_on_edges q (edges_of line)) (is_on_lines q lines) both.0 (lines_off q lines both.1)

-- of the figure's lines
no_line : (f : Figure) (q : Point) → is_on_edges q (segs_of f) ≡ false → is_on_line f q ≡ false
no_line f q off =
    lines_off q f.lines (none_append (is_on_edge q) (edges_of_rings f.lines) (edges_of_rings (rings_of_areas f.areas))
    (sym (ap (is_on_edges q) (segs_are f)) ∙ off)).0

-- at no line end no count is a boundary one
pub no_bound : (f : Figure) (rule : Rule) (q : Point) → is_at_some q (ends_of_lines f.lines) ≡ false → is_line_boundary f rule q ≡ true → ⊥
no_bound f rule q h bound = true≢false (sym (bound_at_end rule (ends_of_lines f.lines) q bound) ∙ h)

-- ---- one figure, at a point outside of a box: what the envelopes tell is at least what is there
-- the part is the exterior, or the envelopes tell at least a rank of it
abbrev IsTold : Extent → Option Window → ℕ → Loc → Type 0
IsTold x w n part = (part ≡ Exterior) ⊎ (n ≤ rank (beyond x w part))

module _ (f : Figure) (shaped : IsWellShaped f) (rule : Rule) (x : Extent) (is : IsExtent f rule x) (w : Option Window) (q : Point)
    (out : ¬ IsInBox w q)
  where
    -- the envelope of the areas sticks out where there is something at q
    areas_out : is_covered f q ≡ true → sticks_out x.areas w ≡ true
    areas_out on = shows_out x.areas w q (covered_in f shaped rule x is q on) out

    -- a point of any kind
    told_zero : (k : DimLoc) → IsKind f rule q k → IsTold x w 1 (part_of k)
    told_zero kind.AreaInterior h =
        let two = interior_two (sticks_out x.areas w) (sticks_out x.lines w) (sticks_out x.points w) (areas_out (interior_is_covered h)) in
        inr (omega (arith, two))
    told_zero kind.AreaBoundary h =
        let one = boundary_one (sticks_out x.areas w) (sticks_out x.ends w) (areas_out h.0) in inr (omega (arith, one))
    told_zero kind.LineInterior h =
        let one = interior_one (sticks_out x.areas w) (sticks_out x.lines w) (sticks_out x.points w)
        (shows_out x.lines w q (line_in f shaped rule x is q h.1) out) in
        inr (omega (arith, one))
    told_zero kind.LineBoundary h =
        inr (boundary_zero (sticks_out x.areas w) (sticks_out x.ends w) (shows_out x.ends w q (end_in f shaped rule x is q h.2) out))
    told_zero kind.PointInterior h =
        inr (interior_zero (sticks_out x.areas w) (sticks_out x.lines w) (sticks_out x.points w)
        (shows_out x.points w q (point_in f shaped rule x is q h.2) out))
    told_zero kind.Exterior h = inl refl

    -- a point that is at no position and no end
    told_one :
        is_at_some q (all_positions f) ≡ false → is_at_some q (ends_of_lines f.lines) ≡ false → (k : DimLoc) → IsKind f rule q k
        → IsTold x w 2 (part_of k)
    told_one lone free kind.AreaInterior h =
        let two = interior_two (sticks_out x.areas w) (sticks_out x.lines w) (sticks_out x.points w) (areas_out (interior_is_covered h)) in
        inr (omega (arith, two))
    told_one lone free kind.AreaBoundary h = inr (boundary_one (sticks_out x.areas w) (sticks_out x.ends w) (areas_out h.0))
    told_one lone free kind.LineInterior h =
        inr (interior_one (sticks_out x.areas w) (sticks_out x.lines w) (sticks_out x.points w)
        (shows_out x.lines w q (line_in f shaped rule x is q h.1) out))
    told_one lone free kind.LineBoundary h = absurd (no_bound f rule q free h.2)
    told_one lone free kind.PointInterior h = absurd (true≢false (sym h.2 ∙ no_point f q lone))
    told_one lone free kind.Exterior h = inl refl

    -- a point that is on no edge either
    told_two :
        is_at_some q (all_positions f) ≡ false → is_on_edges q (segs_of f) ≡ false → (k : DimLoc) → IsKind f rule q k
        → IsTold x w 3 (part_of k)
    told_two lone off kind.AreaInterior h =
        inr (interior_two (sticks_out x.areas w) (sticks_out x.lines w) (sticks_out x.points w) (areas_out (interior_is_covered h)))
    told_two lone off kind.AreaBoundary h = absurd (h.1 (interior_off_edges f shaped q off h.0))
    told_two lone off kind.LineInterior h = absurd (true≢false (sym h.1 ∙ no_line f q off))
    told_two lone off kind.LineBoundary h = absurd (true≢false (sym h.1 ∙ no_line f q off))
    told_two lone off kind.PointInterior h = absurd (true≢false (sym h.2 ∙ no_point f q lone))
    told_two lone off kind.Exterior h = inl refl

    -- the same of a location
    told_of_location :
        (n : ℕ) → ((k : DimLoc) → IsKind f rule q k → IsTold x w n (part_of k)) → (part : Loc) → IsLocation f rule q part
        → IsTold x w n part
    told_of_location n told part h = subst (IsTold x w n) h.gives (told h.decided_by h.decides)

-- ---- two figures
-- what is told of each part is told of the cell, where one part is the exterior
told_together :
    (x y : Extent) (w : Option Window) (n : ℕ) → n ≤ 3 → (p q : Loc) → IsTold x w n p → IsTold y w n q → (p ≡ Exterior) ⊎ (q ≡ Exterior)
    → n ≤ rank (beyond_parts x y w p q)
told_together x y w n few Exterior Exterior h k one = few
told_together x y w n few Interior Exterior (inl h) k one = cc
told_together x y w n few Interior Exterior (inr h) k one = h
told_together x y w n few Boundary Exterior (inl h) k one = cc
told_together x y w n few Boundary Exterior (inr h) k one = h
told_together x y w n few Exterior Interior h (inl k) one = cc
told_together x y w n few Exterior Interior h (inr k) one = k
told_together x y w n few Exterior Boundary h (inl k) one = cc
told_together x y w n few Exterior Boundary h (inr k) one = k
told_together x y w n few Interior Interior h k (inl e) = cc
told_together x y w n few Interior Interior h k (inr e) = cc
told_together x y w n few Interior Boundary h k (inl e) = cc
told_together x y w n few Interior Boundary h k (inr e) = cc
told_together x y w n few Boundary Interior h k (inl e) = cc
told_together x y w n few Boundary Interior h k (inr e) = cc
told_together x y w n few Boundary Boundary h k (inl e) = cc
told_together x y w n few Boundary Boundary h k (inr e) = cc

-- outside of the box one of the parts is the exterior
one_exterior :
    (a b : Figure) (rule : Rule) (w : Option Window) → HoldsCommonPart a b rule w → (c : Cell) (q : Point) → ¬ IsInBox w q
    → IsInCell a b rule c q → (c.a ≡ Exterior) ⊎ (c.b ≡ Exterior)
one_exterior a b rule w holds c q out at = by (holds q)
  where
    by : IsLocation a rule q Exterior ⊎ (IsLocation b rule q Exterior ⊎ IsInBox w q) → (c.a ≡ Exterior) ⊎ (c.b ≡ Exterior)
    by (inl h) = inl (one_part at.in_a h)
    by (inr (inl h)) = inr (one_part at.in_b h)
    by (inr (inr h)) = absurd (out h)

-- ---- a point outside of the box
module _ (a b : Figure) (valid : AreValid a b) (rule : Rule) (x y : Extent) (is_x : IsExtent a rule x) (is_y : IsExtent b rule y)
    (w : Option Window) (holds : HoldsCommonPart a b rule w) (v : Point) (out : ¬ IsInBox w v) (c : Cell)
  where
    -- what both envelopes tell of the kinds at a point outside of the box is told of its cell
    told_there : (n : ℕ) → n ≤ 3 → (q : Point) → ¬ IsInBox w q → IsInCell a b rule c q
        → ((k : DimLoc) → IsKind a rule q k → IsTold x w n (part_of k)) → ((k : DimLoc) → IsKind b rule q k → IsTold y w n (part_of k))
        → n ≤ rank (beyond_cell x y w c)
    told_there n few q outside at told_a told_b =
        told_together x y w n few c.a c.b (told_of_location a valid.a_shaped rule x is_x w q outside n told_a c.a at.in_a)
        (told_of_location b valid.b_shaped rule y is_y w q outside n told_b c.b at.in_b) (one_exterior a b rule w holds c q outside at)

    -- at the point itself
    at_point : IsInCell a b rule c v → 1 ≤ rank (beyond_cell x y w c)
    at_point at =
        told_there 1 (omega arith) v out at (told_zero a valid.a_shaped rule x is_x w v out)
        (told_zero b valid.b_shaped rule y is_y w v out)

    -- the positions and the line ends of both
    all_ends : List Pt
    all_ends = (all_positions a ++ ends_of_lines a.lines) ++ (all_positions b ++ ends_of_lines b.lines)

    -- along a direction
    along : (d : Direction) → IsPairGerm a b rule v d c → 2 ≤ rank (beyond_cell x y w c)
    unfolding all_ends
    along d germ =
        let p = bare_point w all_ends v d germ.from out in
        let far = p.far in
        let q = away_point v d p.m in
        let at = germ.holds (suc p.m) (omega (arith, far)) q (away_point_is v d p.m) in
        let both = none_append (is_at q) (all_positions a ++ ends_of_lines a.lines) (all_positions b ++ ends_of_lines b.lines) p.bare in
        let in_a = none_append (is_at q) (all_positions a) (ends_of_lines a.lines) both.0 in
        let in_b = none_append (is_at q) (all_positions b) (ends_of_lines b.lines) both.1 in
        told_there 2 (omega arith) q p.out at (told_one a valid.a_shaped rule x is_x w q p.out in_a.0 in_a.1)
        (told_one b valid.b_shaped rule y is_y w q p.out in_b.0 in_b.1)

    -- in a sector
    within : IsSeenInSector a b rule v c → 3 ≤ rank (beyond_cell x y w c)
    within s =
        let way = free_in_sector s in
        let p = bare_point w [] v s.middle (s.germ.from + way.from) out in
        let far = p.far in
        let q = away_point v s.middle p.m in
        let away = away_point_is v s.middle p.m in
        let at = s.germ.holds (suc p.m) (omega (arith, far)) q away in
        let free = way.free (suc p.m) (suc p.m) (omega (arith, far)) (omega (arith, far)) q q away away q (start_on_segment q q) in
        let off = none_append (is_on_edge q) (segs_of a) (segs_of b) free.off in
        let lone = no_position a b q free.lone in
        told_there 3 (omega arith) q p.out at (told_two a valid.a_shaped rule x is_x w q p.out lone.0 off.0)
        (told_two b valid.b_shaped rule y is_y w q p.out lone.1 off.1)

    -- each sample
    sample_told : (d : Dim) → IsSampleAt a b rule v c d → rank d ≤ rank (beyond_cell x y w c)
    sample_told Empty s = absurd s
    sample_told Zero s = at_point s
    sample_told One s = along (direction_of s.ray) s.germ
    sample_told Two s = within s

-- what isn't near is outside of the box
pub far_shows_no_more : (a b : Figure) → AreValid a b → (rule : Rule) → LawFarShowsNoMore a b rule
far_shows_no_more a b valid rule x y is_x is_y w holds v far c d s =
    sample_told a b valid rule x y is_x is_y w holds v (far_is_out w v far) c d s
