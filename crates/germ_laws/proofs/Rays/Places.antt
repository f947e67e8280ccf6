-- Rays by their places, and the directions of a sector.
use Rattle.std.proofs.Common.{ℕ, zero, suc, ◌+◌, ◌%◌, ◌<◌, List, [], ◌∷◌, length, refl, arith}
use Rattle.std.proofs.lemmas.Option.{slice_get_within}
use Rattle.plane_laws.specs.Directions.{Direction, IsStrictlyWithin}
use Rattle.plane_exact.specs.Orders.{direction_of}
use Rattle.plane_exact.specs.declared.dir.Dir.{Dir}
use Rattle.point_set.specs.Sectors.{IsInSector, sectors_of}
use Rattle.point_set.specs.Validity.{IsAtPlace}

-- ---- places
pub record HasItem (rays : List Dir) (i : ℕ) : Type 0 where
  pub item : Dir
  pub is : IsAtPlace rays i item

pub item_at : (rays : List Dir) (i : ℕ) → i < length rays → HasItem rays i
item_at [] i h = absurd (omega (arith, h))
item_at (r ∷ rays) zero h = record { item = r; is = refl }
item_at (r ∷ rays) (suc i) h = let k = item_at rays i (omega (arith, h)) in record { item = k.item; is = k.is }

pub in_sector_of : (rays : List Dir) (i : ℕ) (r s : Dir) (d : Direction) → IsAtPlace rays i r → IsAtPlace rays ((i + 1) % length rays) s
    → IsStrictlyWithin (direction_of r) (direction_of s) d → (i < sectors_of rays) × IsInSector rays i d
in_sector_of [] i r s d r_is s_is w = cc
in_sector_of (ray ∷ rays) i r s d r_is s_is w =
    (slice_get_within (ray ∷ rays) i r r_is, record { ray = r; next = s; ray_is = r_is; next_is = s_is; holds = w })
