-- The sector of a direction among rays, found by going through the sectors but the first.
use Rattle.std.proofs.Common.{◌≡◌, ℕ, zero, suc, ◌<◌, List, [], ◌∷◌, length, arith}
use Rattle.std.specs.List.{AllPairs}
use Rattle.std.specs.declared.cmp.Ordering.TheVariants.{Less}
use Rattle.plane_exact.specs.Orders.{direction_of, compare_angles, IsSameDirection}
use Rattle.plane_exact.specs.declared.dir.Dir.{Dir}
use Rattle.plane_laws.specs.Directions.{Direction}
use Rattle.point_set.specs.Sectors.{IsInSector, sectors_of}
use Rattle.point_set.specs.Validity.{IsAtPlace}
use Rattle.germ_laws.proofs.Rays.Around.{Around, on_ray, in_sector, around}

-- The direction isn't in one of the sectors before place i, the first left out.
abbrev pub NotBefore : List Dir → Direction → ℕ → Type 0
NotBefore rays d i = (j : ℕ) → 0 < j → j < i → ¬ IsInSector rays j d

-- what is in none of the others is in the first
pub in_first : (rays : List Dir) → AllPairs (λ d e. compare_angles d e ≡ Less) rays → (d : Dir)
    → NotBefore rays (direction_of d) (length rays)
    → ((i : ℕ) (ray : Dir) → IsAtPlace rays i ray → ¬ IsSameDirection ray d) → IsInSector rays 0 (direction_of d)
in_first [] ascending d none off = tt
in_first (r ∷ rays) ascending d none off = go (around (r ∷ rays) ascending (direction_of d))
  where
    by_place : (i : ℕ) → i < sectors_of (r ∷ rays) → IsInSector (r ∷ rays) i (direction_of d) → IsInSector (r ∷ rays) 0 (direction_of d)
    by_place zero below is = is
    by_place (suc i) below is = absurd (none (suc i) (omega arith) below is)

    go : Around (r ∷ rays) (direction_of d) → IsInSector (r ∷ rays) 0 (direction_of d)
    go (on_ray i ray is same) = absurd (off i ray is same)
    go (in_sector i below is) = by_place i below is
