-- From a point of a ray to the sectors beside the ray: what the germs just beside the point are, the germs in the sectors are.
use Rattle.std.proofs.Common.{◌≡◌, ℕ, suc, ◌+◌, ◌*◌, ◌<◌, pos, ◌*ℤ◌, ◌<ℤ◌, true, false}
use Rattle.std.proofs.Common.{sym, subst, arith}
use Rattle.im_matrix.specs.declared.Loc.{Loc}
use Rattle.im_matrix.specs.declared.Loc.TheVariants.{Exterior}
use Rattle.whole_algebra.proofs.Laws.{linear}
use Rattle.whole_algebra.proofs.Signs.{<ℤ_apart}
use Rattle.plane_laws.specs.Plane.{Point}
use Rattle.plane_exact.specs.Places.{point_of}
use Rattle.plane_laws.specs.Directions.{Direction, bend_of, IsStrictlyWithin}
use Rattle.plane_exact.specs.declared.point.Seg.{Seg}
use Rattle.point_set.specs.declared.figure.Area.{Area}
use Rattle.point_set.specs.Germ.{IsGerm}
use Rattle.plane_laws.specs.Along.{IsInCone}
use Rattle.point_set.specs.Location.{location, edges_of_rings, rings_of}
use Rattle.point_set.specs.Rings.{is_on_edge, is_on_edges}
use Rattle.point_set.specs.Sectors.{HasNoEdgeWithin}
use Rattle.point_set.specs.Shape.{IsAreaShaped}
use Rattle.point_set.specs.Validity.{IsAtPlace}
use Rattle.ring_laws.proofs.Parity.Ring.{misses_start}
use Rattle.plane_laws.proofs.Near.Near.{size_of}
use Rattle.plane_laws.proofs.Near.Away.{away_point, away_point_is, far_for}
use Rattle.ring_laws.proofs.Germs.Areas.{HasGerm, germ_exists, germ_one, clear_from}
use Rattle.ring_laws.proofs.Germs.Edges.{AreJoined, joined_between, direction_pointed}
use Rattle.germ_laws.proofs.Sectors.Germ.{same_in_sector}
use Rattle.germ_laws.proofs.Room.Germs.{germ_room}
use Rattle.germ_laws.proofs.Room.TwoSteps.{both_ways, germ_from_step}
use Rattle.germ_laws.proofs.Sectors.Closed.{just_left, settled, off_edges}
use Rattle.germ_laws.proofs.Room.Ways.{left_turn, left_turn_left}
use Rattle.germ_laws.proofs.Sectors.JustRight.{right_turn, right_turn_right, right_bent, just_right}

-- how far along r the points v + r/n are near enough for two steps
pub reach : (area : Area) → IsAreaShaped area → Point → Direction → ℕ
reach area shaped v r = far_for r ((germ_room area shaped v).n + (germ_room area shaped v).n)

module _ (area : Area) (shaped : IsAreaShaped area) (v : Point) where
  -- the germ just beside a point of r is that of a sector where just beside such a point one is within the sector
  germ_beside : (r s : Direction) → HasNoEdgeWithin area v r s → (d : Direction) → IsStrictlyWithin r s d → (ray : Direction) (n : ℕ)
      → reach area shaped v ray < suc n → (t : Direction) (bent : ¬ (bend_of ray t ≡ pos 0)) (size : ℕ)
      → ((l : ℕ) → (pos (suc n) *ℤ pos size) <ℤ pos (suc l) → IsStrictlyWithin r s (both_ways ray t bent n l)) → (g : Loc)
      → IsGerm area (away_point v ray n) t g → IsGerm area v d g
  unfolding reach
  germ_beside r s free d within ray n far t bent size beside g is = subst (λ h. IsGerm area v d h) one k.is
    where
      k : HasGerm area v d
      k = germ_exists area shaped v d

      l : ℕ
      l = (is.from + reach area shaped v t) + suc n * size

      aside : IsGerm area v (both_ways ray t bent n l) g
      aside = germ_from_step area v (germ_room area shaped v) ray t bent n far g is l (omega arith)

      one : k.germ ≡ g
      one =
          same_in_sector area shaped v r s free d (both_ways ray t bent n l) within (beside l (omega (arith, linear))) k.germ g k.is aside

  -- the germ just to the left of a point of r is that of the sector after r
  pub germ_after : (r s : Direction) → HasNoEdgeWithin area v r s → (n : ℕ) → reach area shaped v r < suc n → (t : Direction)
      → pos 0 <ℤ bend_of r t → (g : Loc) → IsGerm area (away_point v r n) t g → (d : Direction) → IsStrictlyWithin r s d
      → IsGerm area v d g
  germ_after r s free n far t left g is d within =
      let bent = λ (z : bend_of r t ≡ pos 0). <ℤ_apart left (sym z) in
      germ_beside r s free d within r n far t bent (size_of (bend_of t s)) (just_left r s t left bent n) g is

  -- the germ just to the right of a point of r is that of the sector that ends at r
  pub germ_before : (q r : Direction) → HasNoEdgeWithin area v q r → (n : ℕ) → reach area shaped v r < suc n → (t : Direction)
      → pos 0 <ℤ bend_of t r → (g : Loc) → IsGerm area (away_point v r n) t g → (d : Direction) → IsStrictlyWithin q r d
      → IsGerm area v d g
  germ_before q r free n far t right g is d within =
      let bent = right_bent r t right in
      germ_beside q r free d within r n far t bent (size_of (bend_of q t)) (just_right q r t right bent n) g is

  -- where a ray is outside the area, all is outside about its points
  outside_at : (r : Direction) (out : IsGerm area v r Exterior) (t : Direction)
      → IsGerm area (away_point v r (out.from + reach area shaped v r)) t Exterior
  outside_at r out t =
      let n = out.from + reach area shaped v r in
      let p = away_point v r n in
      let here : location area p ≡ Exterior = out.holds (suc n) (omega arith) p (away_point_is v r n) in
      subst (λ g. IsGerm area p t g) here (settled area shaped p (off_edges area p here) t)

  -- so the sector that ends at the ray is outside
  pub sector_before_is_closed : (q r : Direction) → HasNoEdgeWithin area v q r → IsGerm area v r Exterior → (d : Direction)
      → IsStrictlyWithin q r d → IsGerm area v d Exterior
  sector_before_is_closed q r free out =
      germ_before q r free (out.from + reach area shaped v r) (omega arith) (right_turn r) (right_turn_right r) Exterior
      (outside_at r out (right_turn r))

  -- and so is the sector after it
  pub sector_after_is_closed : (r s : Direction) → HasNoEdgeWithin area v r s → IsGerm area v r Exterior → (d : Direction)
      → IsStrictlyWithin r s d → IsGerm area v d Exterior
  sector_after_is_closed r s free out =
      germ_after r s free (out.from + reach area shaped v r) (omega arith) (left_turn r) (left_turn_left r) Exterior
      (outside_at r out (left_turn r))

  -- no edge of the area runs from v along r
  abbrev pub IsBare : Direction → Type 0
  IsBare r =
      (place : ℕ) (f : Seg) → IsAtPlace (edges_of_rings (rings_of area)) place f → is_on_edge v f ≡ true
      → (¬ IsInCone v r r (point_of f.a)) × (¬ IsInCone v r r (point_of f.b))

  -- along such a ray the germ is that of the sectors beside it
  module _ (r : Direction) (bare : IsBare r) where
    -- from some n on, the points v + r/n are on no edge of the area
    joined : AreJoined v r r (edges_of_rings (rings_of area))
    joined =
        joined_between v r r (direction_pointed v r) (edges_of_rings (rings_of area))
        (clear_from v r r (edges_of_rings (rings_of area)) bare)

    -- so they are off its edges
    off_ray : (n : ℕ) → joined.from < suc n → is_on_edges (away_point v r n) (edges_of_rings (rings_of area)) ≡ false
    off_ray n far =
        let p = away_point v r n in
        let is = away_point_is v r n in
        misses_start (joined.free (suc n) (suc n) far far p p is is)

    -- from some n on, about the points v + r/n the germ is that along r
    germ_at : (g : Loc) (is : IsGerm area v r g) (t : Direction)
        → IsGerm area (away_point v r ((is.from + joined.from) + reach area shaped v r)) t g
    germ_at g is t =
        let n = (is.from + joined.from) + reach area shaped v r in
        let p = away_point v r n in
        subst (λ h. IsGerm area p t h) (is.holds (suc n) (omega arith) p (away_point_is v r n))
        (settled area shaped p (off_ray n (omega arith)) t)

    -- in the sector after r the germ is that along r
    pub bare_after : (s : Direction) → HasNoEdgeWithin area v r s → (g : Loc) → IsGerm area v r g → (d : Direction)
        → IsStrictlyWithin r s d → IsGerm area v d g
    bare_after s free g is =
        germ_after r s free ((is.from + joined.from) + reach area shaped v r) (omega arith) (left_turn r) (left_turn_left r) g
        (germ_at g is (left_turn r))

    -- and in the sector before it
    pub bare_before : (q : Direction) → HasNoEdgeWithin area v q r → (g : Loc) → IsGerm area v r g → (d : Direction)
        → IsStrictlyWithin q r d → IsGerm area v d g
    bare_before q free g is =
        germ_before q r free ((is.from + joined.from) + reach area shaped v r) (omega arith) (right_turn r) (right_turn_right r) g
        (germ_at g is (right_turn r))

    -- so germs in the two sectors and on the ray are one
    pub bare_ray : (q s : Direction) → HasNoEdgeWithin area v q r → HasNoEdgeWithin area v r s → (d e : Direction)
        → IsStrictlyWithin q r d → IsStrictlyWithin r s e → (g h k : Loc)
        → IsGerm area v d g → IsGerm area v r h → IsGerm area v e k → (g ≡ h) × (h ≡ k)
    bare_ray q s free_q free_s d e in_d in_e g h k g_is h_is k_is = (
      germ_one area v d g h g_is (bare_before q free_q h h_is d in_d),
      germ_one area v e h k (bare_after s free_s h h_is e in_e) k_is,
    )
