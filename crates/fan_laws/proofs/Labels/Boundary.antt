-- The location of a point that no area has inside: interior to the union exactly where the hands say that every sector is inside an area.
use Rattle.std.proofs.Common.{◌⊎◌, inl, inr, ℕ, ◌+◌, ◌%◌, ◌<◌, pos, List, [], ◌∷◌, length, arith}
use Rattle.std.specs.Prelude.{◌↔◌}
use Rattle.std.proofs.Math.Nat.{mod-lt}
use Rattle.im_matrix.specs.declared.Which.{Which}
use Rattle.whole_algebra.proofs.Laws.{linear}
use Rattle.plane_laws.specs.Plane.{Point}
use Rattle.plane_laws.specs.Directions.{Direction}
use Rattle.plane_exact.specs.Orders.{direction_of}
use Rattle.plane_exact.specs.declared.dir.Dir.{Dir}
use Rattle.point_set.specs.declared.figure.Figure.{Figure}
use Rattle.point_set.specs.Location.{IsAreaInterior}
use Rattle.point_set.specs.Sectors.{IsInSector, sectors_of}
use Rattle.fan_order.specs.declared.section.Section.{Section}
use Rattle.fan_order.specs.Sections.{IsSectorInside, IsFanOf}
use Rattle.kind_laws.proofs.Cover.BesideRay.{not_uncovered, covered_where_interior}
use Rattle.fan_laws.proofs.Fans.Rays.{free_sector}
use Rattle.kind_laws.proofs.Cover.Neighbourhood.{around_from_interior}
use Rattle.germ_laws.proofs.Rays.Neighbours.{within_sector}
use Rattle.kind_laws.proofs.Cover.Inside.{IsNoAreaInteriorAt}
use Rattle.fan_laws.proofs.Walks.SectorHands.{IsFull, IsEmptySector, full_or_empty, inside_is_interior}
use Rattle.germ_laws.proofs.Rays.Places.{item_at, in_sector_of}
use Rattle.kind_laws.proofs.Cover.Sectors.{interior_from_sectors}

-- ---- each sector has a direction, the one without rays too
eastward : Direction
eastward = record { x = pos 1; y = pos 0; moves = λ z. let e = z.0 in omega (arith, linear, e) }

-- one of its directions
record HasDirection (rays : List Dir) (i : ℕ) : Type 0 where
  d : Direction
  in_sector : IsInSector rays i d

-- just beside its first ray, or any where there is none
direction_in : (rays : List Dir) (i : ℕ) → i < sectors_of rays → HasDirection rays i
direction_in [] i below = record { d = eastward; in_sector = tt }
direction_in (ray ∷ rays) i below =
    let all : List Dir = ray ∷ rays in
    let r = item_at all i below in
    let s = item_at all ((i + 1) % length all) (mod-lt (i + 1) (omega arith)) in
    let w = within_sector (direction_of r.item) (direction_of s.item) in
    record { d = w.d; in_sector = (in_sector_of all i r.item s.item w.d r.is s.is w.within).1 }

module _ (which : Which) (f : Figure) (v : Point) (sections : List Section) (rays : List Dir) (fan : IsFanOf which f v sections rays) where
  -- every sector is inside an area, by the hands
  abbrev AreAllInside : Type 0
  AreAllInside = (i : ℕ) → i < sectors_of rays → IsSectorInside which sections rays i

  -- round an interior point nothing is uncovered, so no sector is empty
  all_inside : IsNoAreaInteriorAt f v → IsAreaInterior f v → AreAllInside
  all_inside none h i below = go (full_or_empty which f v sections rays fan i below k.d k.in_sector none)
    where
      k : HasDirection rays i
      k = direction_in rays i below

      go : IsFull which f v sections rays fan i below k.d k.in_sector ⊎ IsEmptySector which f v sections rays fan i below k.d k.in_sector
          → IsSectorInside which sections rays i
      go (inl full) = full.0
      go (inr empty) =
          absurd (not_uncovered f v k.d ((around_from_interior f v h).along k.d) empty.1)

  -- where every sector is inside an area, every sector is covered, and sectors alone decide
  from_all_inside : AreAllInside → IsAreaInterior f v
  from_all_inside all =
      interior_from_sectors f fan.shaped v rays fan.are_rays.ascending
      (λ k area is i r s r_is s_is. free_sector which f v sections rays fan k area is i r s r_is s_is)
      (λ i below d in_d. covered_where_interior (inside_is_interior which f v sections rays fan i below d in_d (all i below)))
      eastward

  -- so the hands decide
  pub boundary_by_fan : IsNoAreaInteriorAt f v
      → IsAreaInterior f v ↔ ((i : ℕ) → i < sectors_of rays → IsSectorInside which sections rays i)
  boundary_by_fan none = (all_inside none, from_all_inside)
