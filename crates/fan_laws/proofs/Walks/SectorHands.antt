-- By the hands a sector is inside an area of the figure, and then all its near points are interior to the union; or no area covers any.
use Rattle.std.proofs.Common.{◌≡◌, ◌⊎◌, inl, inr, ℕ, ◌+◌, ◌<◌, Bool, true, false}
use Rattle.std.proofs.Common.{List, ◌++◌, length, take, refl, subst, arith}
use Rattle.std.proofs.lemmas.Option.{slice_get_within}
use Rattle.im_matrix.specs.declared.Loc.{Loc}
use Rattle.im_matrix.specs.declared.Loc.TheVariants.{Interior, Boundary, Exterior}
use Rattle.im_matrix.specs.declared.Which.{Which}
use Rattle.plane_laws.proofs.Segments.On.{Decides-is_on_segment}
use Rattle.plane_laws.specs.Plane.{Point}
use Rattle.plane_exact.specs.Places.{point_of}
use Rattle.plane_laws.specs.Directions.{Direction}
use Rattle.plane_exact.specs.Orders.{direction_of}
use Rattle.plane_exact.specs.declared.dir.Dir.{Dir}
use Rattle.point_set.specs.declared.figure.Area.{Area}
use Rattle.point_set.specs.declared.figure.Figure.{Figure}
use Rattle.point_set.specs.Germ.{IsGerm}
use Rattle.plane_laws.specs.Along.{HoldsAlong}
use Rattle.point_set.specs.Location.{location, is_covered, IsAreaInterior, edges_of_rings, rings_of}
use Rattle.point_set.specs.Sectors.{IsInSector, sectors_of}
use Rattle.point_set.specs.Validity.{IsAtPlace}
use Rattle.ring_laws.proofs.Germs.Areas.{germ_one}
use Rattle.side_laws.proofs.Areas.Hands.{area_shaped}
use Rattle.fan_order.specs.declared.section.Section.{Section}
use Rattle.fan_order.specs.Sections.{IsWalk, IsSectorInside, IsFanOf}
use Rattle.germ_laws.proofs.Sectors.Closed.{settled, off_edges}
use Rattle.germ_laws.proofs.Cover.BesideRay.{not_uncovered, covered_where_interior}
use Rattle.germ_laws.proofs.Room.Germs.{on_boundary}
use Rattle.germ_laws.proofs.Cover.Germs.{HasCover, cover_or_none}
use Rattle.germ_laws.proofs.Cover.Sectors.{not_exterior}
use Rattle.germ_laws.proofs.Rays.Ways.{HasRay}
use Rattle.fan_laws.proofs.Fans.Rays.{ray_of_section, IsSectionOf, section_of_area}
use Rattle.fan_laws.proofs.Fans.Hands.{sided, hands_alike, HasArea, area_of_section, HasAreaRay, boundary_section}
use Rattle.germ_laws.proofs.Rays.Neighbours.{sectors_some}
use Rattle.fan_order.proofs.Laws.{HasWalk, walk_exists}
use Rattle.fan_laws.proofs.Walks.Germ.{walk_is_germ}
use Rattle.germ_laws.proofs.Cover.Inside.{interior_of_one, IsNoAreaInteriorAt, on_some_edge}

module _ (which : Which) (f : Figure) (v : Point) (sections : List Section) (rays : List Dir) (fan : IsFanOf which f v sections rays)
    (i : ℕ) (below : i < sectors_of rays) (d : Direction) (in_d : IsInSector rays i d) where
  -- where there is a ray, sectors are as many as rays
  some_rays : (j : ℕ) (ray : Dir) → IsAtPlace rays j ray → i < length rays
  some_rays j ray ray_is =
      let h : 0 < length rays = (let k = slice_get_within rays j ray ray_is in omega (arith, k)) in
      subst (λ (n : ℕ). i < n) (sectors_some rays h) below

  -- ---- a sector that the hands say to be inside
  pub inside_is_interior : IsSectorInside which sections rays i → HoldsAlong (λ q. IsAreaInterior f q) v d
  inside_is_interior h = record {
    from = germ.from;
    holds = λ n far q away. interior_of_one f fan.shaped h.area a.area a.is q (germ.holds n far q away);
  }
    where
      a : HasArea which f v sections rays fan h.area
      a = area_of_section which f v sections rays fan h.s h.there h.which_is h.area h.area_is

      x : IsSectionOf a.area v h.s
      x = section_of_area which f v sections fan.are_sections h.area a.area a.is h.s h.there h.which_is h.area_is

      ray : HasRay rays (direction_of h.s.dir)
      ray = ray_of_section sections rays fan.are_rays h.s h.there

      on : location a.area v ≡ Boundary
      on =
          on_boundary a.area v
          (on_some_edge (edges_of_rings (rings_of a.area)) x.place x.e v x.is
          ((Decides-is_on_segment (point_of x.e.a) (point_of x.e.b) v).1 x.on))

      germ : IsGerm a.area v d Interior
      germ =
          let some = some_rays ray.place ray.ray ray.is in
          (walk_is_germ which f v sections rays fan h.area a.area a.is on i some false true h.walk d in_d).0 refl

  -- ---- one area
  -- its germ in the sector is Exterior, or the sector is inside it
  pub out_or_in : (k : ℕ) (area : Area) → IsAtPlace f.areas k area → ¬ (location area v ≡ Interior)
      → IsGerm area v d Exterior ⊎ IsSectorInside which sections rays i
  out_or_in k area is not_in = by_location (location area v) refl
    where
      by_walk : (on : location area v ≡ Boundary) (r : HasAreaRay which f v sections rays fan k area is) (b : Bool)
          (w : HasWalk which k sections (rays ++ take (i + 1) rays) false) → w.after ≡ b
          → IsGerm area v d Exterior ⊎ IsSectorInside which sections rays i
      by_walk on r true w e = inr (record {
        area = k;
        s = r.section.item;
        there = r.section.there;
        which_is = r.section.holds.which_is;
        area_is = r.section.holds.area_is;
        walk = subst (λ b. IsWalk which k sections (rays ++ take (i + 1) rays) false b) e w.walk;
      })
      by_walk on r false w e =
          inl ((walk_is_germ which f v sections rays fan k area is on i (some_rays r.place r.ray r.ray_is) false w.after w.walk d in_d).1 e)

      by_location : (g : Loc) → location area v ≡ g → IsGerm area v d Exterior ⊎ IsSectorInside which sections rays i
      by_location Interior e = absurd (not_in e)
      by_location Exterior e =
          inl (subst (λ g. IsGerm area v d g) e (settled area (area_shaped f fan.shaped k area is) v (off_edges area v e) d))
      by_location Boundary e =
          let w =
          walk_exists which k sections (hands_alike which f v sections rays fan) (sided which f v sections rays fan)
          (rays ++ take (i + 1) rays) false in
          by_walk e (boundary_section which f v sections rays fan k area is e) w.after w refl

  -- ---- the figure
  abbrev pub IsFull : Type 0
  IsFull = IsSectorInside which sections rays i × HoldsAlong (λ q. IsAreaInterior f q) v d

  -- no area is there
  abbrev pub IsEmptySector : Type 0
  IsEmptySector = (¬ IsSectorInside which sections rays i) × HoldsAlong (λ q. is_covered f q ≡ false) v d

  -- the sector is inside an area, or uncovered
  pub full_or_empty : IsNoAreaInteriorAt f v → IsFull ⊎ IsEmptySector
  full_or_empty none = go (cover_or_none f.areas fan.shaped.areas v d)
    where
      by_area : (c : HasCover f.areas v d) → IsGerm c.area v d Exterior ⊎ IsSectorInside which sections rays i → IsFull ⊎ IsEmptySector
      by_area c (inl out) = absurd (not_exterior c.covers (germ_one c.area v d c.germ Exterior c.germ_is out))
      by_area c (inr h) = inl (h, inside_is_interior h)

      go : HasCover f.areas v d ⊎ HoldsAlong (λ q. is_covered f q ≡ false) v d → IsFull ⊎ IsEmptySector
      go (inl c) = by_area c (out_or_in c.place c.area c.is (none c.place c.area c.is))
      go (inr out) = inr (λ h. not_uncovered f v d (covered_where_interior (inside_is_interior h)) out, out)

  -- so the hands decide
  pub sector_by_hands : IsNoAreaInteriorAt f v
      → (IsSectorInside which sections rays i → HoldsAlong (λ q. IsAreaInterior f q) v d)
      × (¬ IsSectorInside which sections rays i → HoldsAlong (λ q. is_covered f q ≡ false) v d)
  sector_by_hands none = (inside_is_interior, λ n. empty n (full_or_empty none))
    where
      empty : ¬ IsSectorInside which sections rays i → IsFull ⊎ IsEmptySector → HoldsAlong (λ q. is_covered f q ≡ false) v d
      empty n (inl h) = absurd (n h.0)
      empty n (inr h) = h.1
