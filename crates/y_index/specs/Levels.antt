-- The whole heights next to a point.
use Rattle.std.specs.Prelude.{◌*ℤ◌, ◌≤ℤ◌, ℤ, ◌↔◌}
use Rattle.plane_laws.specs.Plane.{Point}

-- The floor is the greatest whole height that isn't above p, and the ceiling is the least that isn't below it.
pub record IsLevel (p : Point) (floor ceiling : ℤ) : Type 0 where
  pub low : (y : ℤ) → (y ≤ℤ floor) ↔ ((y *ℤ p.w) ≤ℤ p.y)
  pub high : (y : ℤ) → (ceiling ≤ℤ y) ↔ (p.y ≤ℤ (y *ℤ p.w))
