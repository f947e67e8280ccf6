-- Rays: directions in lowest terms, in the order of their angles.
use Rattle.std.specs.Prelude.{◌≡◌, ℕ, ◌≤◌, unsigned_abs, List}
use Rattle.std.specs.List.{All, AllPairs, Any}
use Rattle.std.specs.declared.cmp.Ordering.TheVariants.{Less}
use Rattle.plane_exact.specs.Limits.{spread}
use Rattle.plane_exact.specs.Orders.{compare_angles, IsSameDirection}
use Rattle.plane_exact.specs.declared.dir.Dir.{Dir}
use Rattle.fan_order.specs.declared.section.Section.{Section}
use Rattle.point_set.specs.Sectors.{IsLowest}
use Rattle.point_set.specs.Validity.{IsAtPlace}

-- Each part has a size of at most twice the limit on coordinates, as the differences of positions have.
pub record IsShort (d : Dir) : Type 0 where
  pub across : unsigned_abs d.dx ≤ spread
  pub above : unsigned_abs d.dy ≤ spread

-- The ray of a direction points the same way, in lowest terms.
pub record IsRayOf (d ray : Dir) : Type 0 where
  pub same : IsSameDirection d ray
  pub lowest : IsLowest ray

-- The rays of a list of sections: the distinct directions of the sections, each in lowest terms, by their angles ascending.
pub record AreRaysOf (sections : List Section) (rays : List Dir) : Type 0 where
  pub ascending : AllPairs (λ d e. compare_angles d e ≡ Less) rays
  pub whole : All (λ s. Any (IsRayOf s.dir) rays) sections
  pub only : All (λ ray. Any (λ s. IsRayOf s.dir ray) sections) rays

-- The ray at the place points the same way as the direction.
pub record IsRayPlace (rays : List Dir) (d : Dir) (place : ℕ) : Type 0 where
  pub ray : Dir
  pub ray_is : IsAtPlace rays place ray
  pub same : IsSameDirection d ray
