-- Where the envelope of the areas sticks out of the common part, a segment of the boundary is shown, at a position farthest out.
use Rattle.std.proofs.Common.{◌≡◌, ◌⊎◌, inl, inr, ℕ, pos, ◌<ℤ◌, true, false, List, [], ◌∷◌, refl, subst, arith}
use Rattle.std.specs.Prelude.{Option}
use Rattle.std.specs.List.{Any}
use Rattle.plane_laws.specs.Directions.{Direction, PointSameWay}
use Rattle.plane_laws.specs.Along.{HoldsAlong}
use Rattle.plane_exact.specs.Places.{point_of}
use Rattle.plane_exact.specs.Orders.{direction_of}
use Rattle.plane_exact.specs.declared.dir.Dir.{Dir}
use Rattle.plane_exact.specs.declared.window.Window.{Window}
use Rattle.im_matrix.specs.Cells.{cell}
use Rattle.im_matrix.specs.declared.Loc.TheVariants.{Boundary, Exterior}
use Rattle.point_set.specs.declared.figure.Figure.{Figure}
use Rattle.point_set.specs.declared.rule.Rule.{Rule}
use Rattle.point_set.specs.Dimension.{HoldsSegment}
use Rattle.point_set.specs.Location.{is_covered, edges_of_rings, rings_of}
use Rattle.point_set.specs.Relation.{IsInCell}
use Rattle.point_set.specs.Sectors.{IsInSector}
use Rattle.point_set.specs.Validity.{IsAtPlace}
use Rattle.point_set.specs.Nodes.{positions_of_ways, rings_of_areas}
use Rattle.point_set.specs.Visible.{AreValid}
use Rattle.point_set.specs.declared.extent.Extent.{Extent}
use Rattle.point_set.specs.Extents.{IsExtent}
use Rattle.box_laws.specs.Boxes.{HoldsCommonPart, sticks_out}
use Rattle.plane_laws.proofs.Segments.On.{Decides-is_on_segment}
use Rattle.kind_laws.proofs.Cover.BesideRay.{not_uncovered}
use Rattle.kind_laws.proofs.Hands.InSector.{moving}
use Rattle.kind_laws.proofs.Location.Decided.{IsSectorAlike, sector_alike}
use Rattle.stay_laws.proofs.Even.Germs.{edge_at}
use Rattle.cell_laws.proofs.Directions.Exist.{HasSector}
use Rattle.near_laws.proofs.Beyond.Boundary.{covered_on, boundary_before}
use Rattle.near_laws.proofs.Beyond.Corners.{HasCorner, corner, coordinate, outward, gain, outward_gains, away_beyond}
use Rattle.near_laws.proofs.Beyond.Inside.{area_at, on_area}
use Rattle.near_laws.proofs.Beyond.Lines.{segment_out}
use Rattle.near_laws.proofs.Beyond.Positions.{far_position}
use Rattle.near_laws.proofs.Beyond.Rays.{IsAlongAreas, HasAreaDirections, area_directions}
use Rattle.near_laws.proofs.Beyond.Ways.{end_way, leads_to_end}
use Rattle.box_laws.proofs.Envelopes.Past.{uncovered_beyond}

-- two figures, and a farthest position outside of their common part
module _ (a b : Figure) (valid : AreValid a b) (rule : Rule) (x : Extent) (is : IsExtent a rule x) (w : Option Window)
    (holds : HoldsCommonPart a b rule w) (c : HasCorner w (positions_of_ways (rings_of_areas a.areas)))
  where
    -- along a direction that leads out nothing is covered
    bare_outward : (d : Direction) → pos 0 <ℤ gain c.side d → HoldsAlong (λ p. is_covered a p ≡ false) (point_of c.q) d
    bare_outward d gains = record {
      from = 0;
      holds = λ n far p away.
          uncovered_beyond c.side (coordinate c.side c.q) p (away_beyond c.side c.q d gains n far p away) a.areas valid.a_shaped.areas
          c.behind;
    }

    -- there is a ray: an edge runs from the corner
    some_ray : (r : HasAreaDirections a (point_of c.q)) → ¬ (r.rays ≡ [])
    some_ray r none =
        let h = area_at a.areas (point_of c.q) c.at in
        let on = on_area a valid.a_shaped valid.a_valid h.k h.area h.is (point_of c.q) h.at in
        let e = edge_at (point_of c.q) (edges_of_rings (rings_of h.area)) on in
        let way = end_way e.e (moving a valid.a_shaped valid.a_valid h.k h.area h.is e.i e.e e.is) (point_of c.q) in
        let held = (Decides-is_on_segment (point_of e.e.a) (point_of e.e.b) (point_of c.q)).1 e.on in
        no_item (subst (Any (λ ray. PointSameWay way.d (direction_of ray))) none
        ((r.at h.k h.area h.is).whole e.i e.e e.is held way.d (leads_to_end e.e (point_of c.q) way)))
      where
        no_item : {P : Dir → Type 0} → ¬ Any P []
        no_item k = let below = k.2 in omega (arith, below)

    -- at the ray before a bare sector a segment of the boundary is shown
    by_sector :
        (rays : List Dir) → ¬ (rays ≡ [])
        → ((i : ℕ) (ray : Dir) → IsAtPlace rays i ray → IsAlongAreas a (point_of c.q) (direction_of ray))
        → (i : ℕ) (d : Direction) → IsInSector rays i d → IsSectorAlike a (point_of c.q) rays i false
        → HoldsSegment (IsInCell a b rule (cell Boundary Exterior))
    by_sector [] some runs i d within bare = absurd (some refl)
    by_sector (ray ∷ rays) some runs i d within bare =
        segment_out a b valid rule x is w holds (point_of c.q) c.out (direction_of within.ray) Boundary (λ e. cc)
        (boundary_before a valid.a_shaped valid.a_valid rule (point_of c.q) (direction_of within.ray) (direction_of within.next)
        (λ e in_e. bare e (record { ray = within.ray; next = within.next; ray_is = within.ray_is; next_is = within.next_is; holds = in_e }))
        (runs i within.ray within.ray_is))

    -- straight out of the corner no edge runs, so there is a bare sector
    at_corner : HoldsSegment (IsInCell a b rule (cell Boundary Exterior))
    at_corner = by (r.sector (outward c.side))
      where
        r : HasAreaDirections a (point_of c.q)
        r = area_directions a valid.a_shaped valid.a_valid (point_of c.q)

        none_covered : HoldsAlong (λ p. is_covered a p ≡ true) (point_of c.q) (outward c.side) → ⊥
        none_covered on =
            not_uncovered a (point_of c.q) (outward c.side) on (bare_outward (outward c.side) (outward_gains c.side))

        by_cover :
            (i : ℕ) → IsInSector r.rays i (outward c.side)
            → IsSectorAlike a (point_of c.q) r.rays i true ⊎ IsSectorAlike a (point_of c.q) r.rays i false
            → HoldsSegment (IsInCell a b rule (cell Boundary Exterior))
        by_cover i within (inl all) = absurd (none_covered (all (outward c.side) within))
        by_cover i within (inr bare) = by_sector r.rays (some_ray r) r.runs i (outward c.side) within bare

        by : IsAlongAreas a (point_of c.q) (outward c.side) ⊎ HasSector r.rays (outward c.side)
            → HoldsSegment (IsInCell a b rule (cell Boundary Exterior))
        by (inl on) =
            absurd (none_covered (record { from = on.from; holds = λ n far p away. covered_on p a.areas (on.holds n far p away) }))
        by (inr s) = by_cover s.i s.within (sector_alike a valid.a_shaped (point_of c.q) r.rays r.at s.i s.below)

-- where areas stick out, a segment of the boundary is shown
pub area_boundary :
    (a b : Figure) → AreValid a b → (rule : Rule) (x : Extent) → IsExtent a rule x → (w : Option Window) → HoldsCommonPart a b rule w
    → sticks_out x.areas w ≡ true → HoldsSegment (IsInCell a b rule (cell Boundary Exterior))
area_boundary a b valid rule x is w holds some =
    at_corner a b valid rule x is w holds
    (corner w (positions_of_ways (rings_of_areas a.areas))
    (far_position (positions_of_ways (rings_of_areas a.areas)) x.areas w is.areas some))
