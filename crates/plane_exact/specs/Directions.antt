-- The bounds of a direction of the code.
use Rattle.std.specs.Prelude.{◌≡◌, ℤ, pos, neg_ℤ, ◌≤ℤ◌}
use Rattle.plane_exact.specs.Limits.{farthest}

-- Not both parts are 0, and each has a size of at most 2^23.
pub record IsWay (dx dy : ℤ) : Type 0 where
  pub left : neg_ℤ (pos farthest) ≤ℤ dx
  pub right : dx ≤ℤ pos farthest
  pub bottom : neg_ℤ (pos farthest) ≤ℤ dy
  pub top : dy ≤ℤ pos farthest
  pub turned : ¬ ((dx ≡ pos 0) × (dy ≡ pos 0))
