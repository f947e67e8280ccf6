-- The sectors between neighbouring directions, a sector's middle, and the sectors that are free of an area's edges.
use Rattle.std.specs.Prelude.{◌-◌, ◌≡◌, true, ℕ, ◌+◌, ◌%◌, pos, ◌⊎◌, List, [], ◌∷◌, length, unsigned_abs}
use Prim.Native.Nat.{◌∣◌}
use Rattle.std.specs.List.{AllPairs, Any}
use Rattle.std.specs.declared.cmp.Ordering.TheVariants.{Less}
use Rattle.plane_laws.specs.Plane.{Point}
use Rattle.plane_exact.specs.Places.{point_of}
use Rattle.plane_laws.specs.Directions.{Direction, PointSameWay, IsStrictlyWithin, IsMiddleBetween}
use Rattle.plane_exact.specs.Orders.{direction_of, compare_angles}
use Rattle.plane_exact.specs.declared.dir.Dir.{Dir}
use Rattle.plane_exact.specs.declared.point.Seg.{Seg}
use Rattle.point_set.specs.declared.figure.Area.{Area}
use Rattle.point_set.specs.Rings.{is_on_edge}
use Rattle.point_set.specs.Location.{rings_of, edges_of_rings}
use Rattle.plane_laws.specs.Along.{IsInCone}
use Rattle.point_set.specs.Validity.{IsAtPlace}

-- No edge of the area runs from v strictly between r and s, counter-clockwise: of the edges that v is on, none has an end
-- that lies from v along a direction strictly within.
abbrev pub HasNoEdgeWithin : Area → Point → Direction → Direction → Type 0
HasNoEdgeWithin area v r s =
    (place : ℕ) (f : Seg) → IsAtPlace (edges_of_rings (rings_of area)) place f → is_on_edge v f ≡ true
    → (t : Direction) → IsStrictlyWithin r s t → (¬ IsInCone v t t (point_of f.a)) × (¬ IsInCone v t t (point_of f.b))

-- The rays of edges at a point: directions in the order of their angles, each direction once; from v every edge that v is on
-- runs along one of them towards each of its ends that isn't v.
pub record AreRaysAt (v : Point) (edges : List Seg) (rays : List Dir) : Type 0 where
  pub ascending : AllPairs (λ d e. compare_angles d e ≡ Less) rays
  pub whole :
      (place : ℕ) (f : Seg) → IsAtPlace edges place f → is_on_edge v f ≡ true → (t : Direction)
      → IsInCone v t t (point_of f.a) ⊎ IsInCone v t t (point_of f.b) → Any (λ ray. PointSameWay t (direction_of ray)) rays

-- Something holds of the direction at place i of a list in order of angles, and of its neighbour counter-clockwise: the next
-- in the list, and after the last one the first.
pub record OfNeighbours (Holds : Direction → Direction → Type 0) (rays : List Dir) (i : ℕ) : Type 0 where
  pub ray : Dir
  pub next : Dir
  pub ray_is : IsAtPlace rays i ray
  pub next_is : IsAtPlace rays ((i + 1) % length rays) next
  pub holds : Holds (direction_of ray) (direction_of next)

-- A direction lies strictly within sector i of the given directions; with none there is one sector of all directions.
abbrev pub IsInSector : List Dir → ℕ → Direction → Type 0
IsInSector [] i d = Unit {0}
IsInSector (ray ∷ rays) i d = OfNeighbours (λ r s. IsStrictlyWithin r s d) (ray ∷ rays) i

-- The middle of sector i; with no direction it is the positive x direction.
abbrev pub IsMiddle : List Dir → ℕ → Direction → Type 0
IsMiddle [] i m = (m.x ≡ pos 1) × (m.y ≡ pos 0)
IsMiddle (ray ∷ rays) i m = OfNeighbours (λ r s. IsMiddleBetween r s m) (ray ∷ rays) i

-- How many sectors there are: one after each ray, and one where there is no ray.
abbrev pub sectors_of : List Dir → ℕ
sectors_of [] = 1
sectors_of (ray ∷ rays) = length (ray ∷ rays)

-- Lowest terms: only 1 divides both parts.
pub record IsLowest (d : Dir) : Type 0 where
  pub only : (n : ℕ) → n ∣ unsigned_abs d.dx → n ∣ unsigned_abs d.dy → n ≡ 1

-- The place of the sector that ends at ray i, of so many rays.
abbrev pub sector_before : ℕ → ℕ → ℕ
sector_before count i = (i + (count - 1)) % count
