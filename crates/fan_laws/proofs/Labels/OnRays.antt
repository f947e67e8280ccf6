-- What the areas are along a ray, by the two sectors beside it: interior where both are inside, on the boundary where one is, and not
-- there where none is.
use Rattle.std.proofs.Common.{◌≡◌, ◌⊎◌, inl, inr, ℕ, ◌+◌, ◌%◌, ◌<◌, Bool, true, false, List, length, ap, refl, sym, ◌∙◌, subst, arith}
use Rattle.std.specs.List.{Contains}
use Rattle.std.proofs.lemmas.Option.{slice_get_within}
use Rattle.std.proofs.Math.Nat.{mod-lt}
use Rattle.im_matrix.specs.declared.Loc.{Loc}
use Rattle.im_matrix.specs.declared.Loc.TheVariants.{Interior, Exterior}
use Rattle.im_matrix.specs.declared.Which.{Which}
use Rattle.plane_laws.specs.Plane.{Point}
use Rattle.plane_laws.specs.Directions.{Direction, IsStrictlyWithin}
use Rattle.plane_exact.specs.Orders.{direction_of}
use Rattle.plane_exact.specs.declared.dir.Dir.{Dir}
use Rattle.point_set.specs.declared.edge.Hand.{Hand}
use Rattle.point_set.specs.declared.edge.Hand.TheVariants as hand
use Rattle.point_set.specs.declared.figure.Area.{Area}
use Rattle.point_set.specs.declared.figure.Figure.{Figure}
use Rattle.plane_laws.specs.Along.{HoldsAlong}
use Rattle.point_set.specs.Germ.{IsGerm}
use Rattle.point_set.specs.Location.{is_not_exterior, is_covered, is_covered_by, IsAreaInterior}
use Rattle.point_set.specs.Sectors.{IsInSector, HasNoEdgeWithin, sectors_of, sector_before}
use Rattle.point_set.specs.Shape.{IsWellShaped}
use Rattle.point_set.specs.Validity.{IsAtPlace}
use Rattle.ring_laws.proofs.Germs.Areas.{HasGerm, germ_exists, germ_one}
use Rattle.side_laws.proofs.Areas.Hands.{area_shaped}
use Rattle.fan_order.specs.declared.section.Section.{Section}
use Rattle.fan_order.specs.Sections.{IsSectorInside, IsFanOf, IsAreaAlong}
use Rattle.kind_laws.proofs.Cover.Germs.{HasCover, cover_of, cover_or_none}
use Rattle.germ_laws.proofs.Rays.Places.{HasItem, item_at, in_sector_of}
use Rattle.kind_laws.proofs.Cover.Sectors.{covered_at, is_exterior, not_exterior}
use Rattle.germ_laws.proofs.Sectors.BesideRay.{sector_before_is_closed, sector_after_is_closed, bare_after}
use Rattle.kind_laws.proofs.Cover.BesideRay.{not_uncovered, covered_where_interior, IsSectorCovered, interior_between, bare_left}
use Rattle.kind_laws.proofs.Cover.BesideRay.{bare_right}
use Rattle.fan_laws.proofs.Fans.Rays.{free_sector}
use Rattle.fan_laws.proofs.Fans.Hands.{shape, sided, hand_after, hand_before, bare_along}
use Rattle.germ_laws.proofs.Rays.Neighbours.{before_below, next_of_before, HasWithin, within_sector}
use Rattle.kind_laws.proofs.Cover.Inside.{IsNoAreaInteriorAt}
use Rattle.fan_laws.proofs.Walks.SectorHands.{inside_is_interior, sector_by_hands}
use Rattle.figure_laws.proofs.Lists.Search.{HasSome}
use Rattle.fan_order.proofs.Laws.{find_along}

-- ---- a covered sector covers its rays
-- where an area's germ isn't Exterior the union covers
covered_along : (f : Figure) (place : ℕ) (area : Area) → IsAtPlace f.areas place area → (v : Point) (d : Direction) (g : Loc)
    → IsGerm area v d g → is_not_exterior g ≡ true → HoldsAlong (λ q. is_covered f q ≡ true) v d
covered_along f place area is v d g germ h = record {
  from = germ.from;
  holds = λ n far q away. covered_at f.areas place area is q (ap is_not_exterior (germ.holds n far q away) ∙ h);
}

-- where each area that is Exterior on the ray is so in the sector, a covered sector covers the ray
ray_covered : (f : Figure) → IsWellShaped f → (v : Point) (r d : Direction) → HoldsAlong (λ q. is_covered f q ≡ true) v d
    → ((place : ℕ) (area : Area) → IsAtPlace f.areas place area → IsGerm area v r Exterior → IsGerm area v d Exterior)
    → HoldsAlong (λ q. is_covered f q ≡ true) v r
ray_covered f shaped v r d covered closed = by_germ g.germ g.is (is_not_exterior g.germ) refl
  where
    c : HasCover f.areas v d
    c = cover_of f.areas shaped.areas v d covered

    g : HasGerm c.area v r
    g = germ_exists c.area (area_shaped f shaped c.place c.area c.is) v r

    by_germ : (k : Loc) → IsGerm c.area v r k → (b : Bool) → is_not_exterior k ≡ b → HoldsAlong (λ q. is_covered f q ≡ true) v r
    by_germ k k_is true h = covered_along f c.place c.area c.is v r k k_is h
    by_germ k k_is false h =
        let out = closed c.place c.area c.is (subst (λ z. IsGerm c.area v r z) (is_exterior k h) k_is) in
        absurd (not_exterior c.covers (germ_one c.area v d c.germ Exterior c.germ_is out))

module _ (which : Which) (f : Figure) (v : Point) (sections : List Section) (rays : List Dir) (fan : IsFanOf which f v sections rays)
    (i : ℕ) (ray : Dir) (ray_is : IsAtPlace rays i ray) where
  -- ---- the sectors beside the ray
  here : i < length rays
  here = slice_get_within rays i ray ray_is

  -- the ray's direction
  abbrev r : Direction
  r = direction_of ray

  -- the place of the sector before
  abbrev p : ℕ
  p = sector_before (length rays) i

  -- the ray after this one
  next : HasItem rays ((i + 1) % length rays)
  next = item_at rays ((i + 1) % length rays) (mod-lt (i + 1) (let h = here in omega (arith, h)))

  -- and the one before
  earlier : HasItem rays p
  earlier = item_at rays p (before_below (length rays) i here)

  -- which this one follows
  ray_next : IsAtPlace rays ((p + 1) % length rays) ray
  ray_next = subst (λ (m : ℕ). IsAtPlace rays m ray) (sym (next_of_before (length rays) i here)) ray_is

  -- no edge of an area runs within the two sectors
  after_free : (k : ℕ) (area : Area) → IsAtPlace f.areas k area → HasNoEdgeWithin area v r (direction_of next.item)
  after_free k area is = free_sector which f v sections rays fan k area is i ray next.item ray_is next.is

  -- the same of the sector before
  before_free : (k : ℕ) (area : Area) → IsAtPlace f.areas k area → HasNoEdgeWithin area v (direction_of earlier.item) r
  before_free k area is = free_sector which f v sections rays fan k area is p earlier.item ray earlier.is ray_next

  -- their directions
  after_in : (d : Direction) → IsStrictlyWithin r (direction_of next.item) d → (i < sectors_of rays) × IsInSector rays i d
  after_in d within = in_sector_of rays i ray next.item d ray_is next.is within

  -- of the sector before
  before_in : (d : Direction) → IsStrictlyWithin (direction_of earlier.item) r d → (p < sectors_of rays) × IsInSector rays p d
  before_in d within = in_sector_of rays p earlier.item ray d earlier.is ray_next within

  -- by the hands a sector is inside an area
  abbrev IsInside : ℕ → Type 0
  IsInside j = IsSectorInside which sections rays j

  -- what the hands say of them
  after_covered : IsInside i → IsSectorCovered f fan.shaped v true r (direction_of next.item)
  after_covered h d within =
      let w = after_in d within in
      covered_where_interior (inside_is_interior which f v sections rays fan i w.0 d w.1 h)

  -- of the sector before
  before_covered : IsInside p → IsSectorCovered f fan.shaped v true (direction_of earlier.item) r
  before_covered h d within =
      let w = before_in d within in
      covered_where_interior (inside_is_interior which f v sections rays fan p w.0 d w.1 h)

  -- or else uncovered
  after_bare : IsNoAreaInteriorAt f v → ¬ IsInside i → IsSectorCovered f fan.shaped v false r (direction_of next.item)
  after_bare none h d within = let w = after_in d within in (sector_by_hands which f v sections rays fan i w.0 d w.1 none).1 h

  -- of the sector before
  before_bare : IsNoAreaInteriorAt f v → ¬ IsInside p → IsSectorCovered f fan.shaped v false (direction_of earlier.item) r
  before_bare none h d within = let w = before_in d within in (sector_by_hands which f v sections rays fan p w.0 d w.1 none).1 h

  -- ---- one of the sectors is inside: the ray is covered
  covered_by_after : IsInside i → HoldsAlong (λ q. is_covered f q ≡ true) v r
  covered_by_after h =
      let w = within_sector r (direction_of next.item) in
      ray_covered f fan.shaped v r w.d (after_covered h w.d w.within)
      (λ k area is out.
      let sh = area_shaped f fan.shaped k area is in
      sector_after_is_closed area sh v r (direction_of next.item) (after_free k area is) out w.d w.within)

  -- by the sector before
  covered_by_before : IsInside p → HoldsAlong (λ q. is_covered f q ≡ true) v r
  covered_by_before h =
      let w = within_sector (direction_of earlier.item) r in
      ray_covered f fan.shaped v r w.d (before_covered h w.d w.within)
      (λ k area is out.
      let sh = area_shaped f fan.shaped k area is in
      sector_before_is_closed area sh v (direction_of earlier.item) r (before_free k area is) out w.d w.within)

  -- both are inside
  pub interior_on_ray : IsInside i → IsInside p → HoldsAlong (λ q. IsAreaInterior f q) v (direction_of ray)
  interior_on_ray h k =
      interior_between f fan.shaped v (direction_of earlier.item) r (direction_of next.item) (before_covered k) (after_covered h)
      (covered_by_after h)

  -- ---- one is inside and one isn't
  both_along : HoldsAlong (λ q. is_covered f q ≡ true) v r → HoldsAlong (λ q. ¬ IsAreaInterior f q) v r
      → HoldsAlong (λ q. (is_covered f q ≡ true) × (¬ IsAreaInterior f q)) v r
  both_along h k = record {
    from = h.from + k.from;
    holds = λ n far q away. (h.holds n (omega (arith, far)) q away, k.holds n (omega (arith, far)) q away);
  }

  -- the sector after is, and the one before isn't
  pub boundary_after : IsNoAreaInteriorAt f v → IsInside i → ¬ IsInside p
      → HoldsAlong (λ q. (is_covered f q ≡ true) × (¬ IsAreaInterior f q)) v (direction_of ray)
  boundary_after none h k =
      both_along (covered_by_after h) (bare_right f fan.shaped v (direction_of earlier.item) r (before_bare none k))

  -- the one before is, and the sector after isn't
  pub boundary_before : IsNoAreaInteriorAt f v → ¬ IsInside i → IsInside p
      → HoldsAlong (λ q. (is_covered f q ≡ true) × (¬ IsAreaInterior f q)) v (direction_of ray)
  boundary_before none h k = both_along (covered_by_before k) (bare_left f fan.shaped v r (direction_of next.item) (after_bare none h))

  -- ---- none is inside
  -- an area that covers the ray covers one of the sectors: by its section's hand, or as an area without an edge there
  no_cover : IsSectorCovered f fan.shaped v false r (direction_of next.item)
      → IsSectorCovered f fan.shaped v false (direction_of earlier.item) r → HasCover f.areas v r → ⊥
  no_cover after before c = by_search (find_along which c.place ray sections)
    where
      w : HasWithin r (direction_of next.item)
      w = within_sector r (direction_of next.item)

      u : HasWithin (direction_of earlier.item) r
      u = within_sector (direction_of earlier.item) r

      clash : (d : Direction) → HoldsAlong (λ q. is_covered f q ≡ false) v d → (g : Loc) → is_not_exterior g ≡ true
          → IsGerm c.area v d g → ⊥
      clash d out g h is = not_uncovered f v d (covered_along f c.place c.area c.is v d g is h) out

      by_hand : (h : HasSome (IsAreaAlong which c.place ray) sections) (side : Hand) → h.item.hand ≡ side → ⊥
      by_hand h hand.Left e =
          clash w.d (after w.d w.within) Interior refl
          ((hand_after which f v sections rays fan c.place c.area c.is ray h i ray_is w.d
          (record { ray = ray; next = next.item; ray_is = ray_is; next_is = next.is; within = w.within })).0 e)
      by_hand h hand.Right e =
          clash u.d (before u.d u.within) Interior refl
          ((hand_before which f v sections rays fan c.place c.area c.is ray h p ray_next u.d
          (record { ray = earlier.item; next = ray; ray_is = earlier.is; next_is = ray_next; within = u.within })).1 e)
      by_hand h hand.Line e =
          (sided which f v sections rays fan).sided h.item h.there h.holds.which_is c.place h.holds.area_is e

      by_search : HasSome (IsAreaAlong which c.place ray) sections
          ⊎ ((s : Section) → Contains sections s → IsAreaAlong which c.place ray s → ⊥) → ⊥
      by_search (inl h) = by_hand h h.item.hand refl
      by_search (inr none) =
          clash w.d (after w.d w.within) c.germ c.covers
          (bare_after c.area (shape which f v sections rays fan c.place c.area c.is) v r
          (bare_along which f v sections rays fan c.place c.area c.is ray none) (direction_of next.item) (after_free c.place c.area c.is)
          c.germ c.germ_is w.d w.within)

  -- so no area covers the ray
  pub bare_on_ray : IsNoAreaInteriorAt f v → ¬ IsInside i → ¬ IsInside p → HoldsAlong (λ q. is_covered f q ≡ false) v (direction_of ray)
  bare_on_ray none h k = go (cover_or_none f.areas fan.shaped.areas v r)
    where
      go : HasCover f.areas v r ⊎ HoldsAlong (λ q. is_covered_by q f.areas ≡ false) v r → HoldsAlong (λ q. is_covered f q ≡ false) v r
      go (inl c) = absurd (no_cover (after_bare none h) (before_bare none k) c)
      go (inr out) = out
