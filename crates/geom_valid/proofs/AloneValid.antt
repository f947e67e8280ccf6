-- A sound area is valid by itself, and an index over the heights of edges locates in the area inside a ring.
use Rattle.std.proofs.Common.{◌≡◌, ℕ, zero, suc, Bool, true, false, not, ◌&&◌, List, [], ◌∷◌, refl, sym, ◌∙◌, ap, subst, arith}
use Rattle.std.specs.List.{All}
use Rattle.std.proofs.lemmas.Option.{none-some}
use Rattle.plane_laws.specs.Plane.{Point}
use Rattle.plane_exact.specs.declared.point.Pt.{Pt}
use Rattle.plane_exact.specs.declared.point.Seg.{Seg}
use Rattle.point_set.specs.declared.figure.Area.{Area}
use Rattle.point_set.specs.Location.{location, location_by, rings_of}
use Rattle.point_set.specs.Rings.{edges_of, is_odd, is_on_edges}
use Rattle.point_set.specs.Validity.{IsAtPlace, Clause, Fails, SomeArea, SomeEarlier, SomeRing, HasTooFewPoints, CrossesItself}
use Rattle.point_set.specs.Validity.{RingsShareSegment, HasHoleOutside, HasHolesThatOverlap, HasTouchCycle, AreasShareSegment, AreasOverlap}
use Rattle.point_set.specs.Validity.{too_few_points, ring_cross, rings_share_edge, hole_outside, holes_overlap, disconnected}
use Rattle.point_set.specs.Validity.{elements_share_edge, elements_overlap}
use Rattle.figure_laws.proofs.Lists.Places.{all_at, some_same}
use Rattle.valid_laws.specs.Entering.{disc_of}
use Rattle.valid_laws.proofs.Clauses.OverAllPoints.{disc_location}
use Rattle.area_locator.specs.Validity.{IsValidArea, figure_of}
use Rattle.geom_valid.specs.Grounds.{IsSoundArea}

module _ (area : Area) (sound : IsSoundArea area) where
  -- the figure of the area alone has no other area
  alone : (place : ℕ) (other : Area) → IsAtPlace (area ∷ []) place other → (place ≡ 0) × (other ≡ area)
  alone zero other is = (refl, sym (some_same is))
  alone (suc place) other is = absurd (none-some other is)

  -- so none of its areas is so where this area isn't
  no_area : (IsSo : Area → Type 0) → ¬ IsSo area → (place : ℕ) → ¬ SomeArea (figure_of area) place IsSo
  no_area IsSo not place h = not (subst IsSo (alone place h.area h.area_is).1 h.is_so)

  -- and none of its areas has an earlier one
  no_earlier : (IsSo : Area → Area → Type 0) (place : ℕ) → ¬ SomeEarlier (figure_of area) place IsSo
  no_earlier IsSo place h =
      let last = (alone place h.area h.area_is).0 in
      let earlier = h.earlier in
      omega (arith, last, earlier)

  -- none of its rings is so where all aren't
  no_ring : (IsSo : List Pt → Type 0) → All (λ ring. ¬ IsSo ring) (rings_of area) → ¬ SomeRing IsSo area
  no_ring IsSo none h = all_at (λ ring. ¬ IsSo ring) (rings_of area) h.place h.ring none h.ring_is h.is_so

  -- it fails no clause
  pub valid_alone : IsValidArea area
  valid_alone place clause = by clause
    where
      by : (clause : Clause) → ¬ Fails (figure_of area) place clause
      by too_few_points = no_area (SomeRing HasTooFewPoints) (no_ring HasTooFewPoints sound.enough) place
      by ring_cross = no_area (SomeRing CrossesItself) (no_ring CrossesItself sound.clean.simple) place
      by rings_share_edge = no_area RingsShareSegment sound.clean.unshared place
      by hole_outside = no_area HasHoleOutside sound.clean.within place
      by holes_overlap = no_area HasHolesThatOverlap sound.clean.unlapped place
      by disconnected = no_area HasTouchCycle sound.joined place
      by elements_share_edge = no_earlier AreasShareSegment place
      by elements_overlap = no_earlier AreasOverlap place

-- ---- in the area inside a ring the count of crossings decides
by_count : (on odd : Bool) → location_by on odd false ≡ location_by on (not on && odd) false
by_count true odd = refl
by_count false odd = refl

pub disc_by_count : (ring : List Pt) (edges : List Seg) → edges ≡ edges_of ring → (p : Point)
    → location_by (is_on_edges p edges) (is_odd p edges) false ≡ location (disc_of ring) p
disc_by_count ring edges same p =
    ap (λ (es : List Seg). location_by (is_on_edges p es) (is_odd p es) false) same
    ∙ by_count (is_on_edges p (edges_of ring)) (is_odd p (edges_of ring)) ∙ sym (disc_location p ring)
