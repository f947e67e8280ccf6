-- Directions: their angles, the turn between two, and what lies strictly between two of them.
use Rattle.std.specs.Prelude.{◌≡◌, Bool, true, false, ℤ, zero, suc, pos, negsuc, ◌+ℤ◌, ◌-ℤ◌, ◌*ℤ◌, neg_ℤ, ◌<ℤ◌, ◌≤ℤ◌, ◌⊎◌}
use Rattle.std.specs.declared.cmp.Ordering.{Ordering}
use Rattle.std.specs.Ordering.{ordering_then, bool_cmp, int_cmp}

-- A direction: two whole numbers of any size, not both 0.
pub record Direction : Type 0 where
  pub x : ℤ
  pub y : ℤ
  pub moves : ¬ ((x ≡ pos 0) × (y ≡ pos 0))

-- Whether a direction's angle is at least half a turn: it points down, or straight to the left.
abbrev pub past_half : ℤ → ℤ → Bool
past_half dx (pos (suc n)) = false
past_half dx (negsuc n) = true
past_half (pos m) (pos zero) = false
past_half (negsuc m) (pos zero) = true

-- The cross product of two directions: positive where v is to the left of u, less than half a turn.
unfoldable pub bend_of : Direction → Direction → ℤ
bend_of u v = (u.x *ℤ v.y) -ℤ (u.y *ℤ v.x)

-- Directions by their angle, counter-clockwise from the positive x direction. Of two in one half the first has the other to its left.
abbrev pub compare_ways : Direction → Direction → Ordering
compare_ways d e = ordering_then (bool_cmp (past_half d.x d.y) (past_half e.x e.y)) (int_cmp (pos 0) (bend_of d e))

-- Two directions point the same way: a positive multiple of one is a positive multiple of the other.
pub record PointSameWay (u v : Direction) : Type 0 where
  pub m : ℤ
  pub n : ℤ
  pub some : pos 0 <ℤ m
  pub other : pos 0 <ℤ n
  pub across : m *ℤ u.x ≡ n *ℤ v.x
  pub above : m *ℤ u.y ≡ n *ℤ v.y

-- d lies strictly between r and s, counter-clockwise after r and before s.
--   Where s is to the left of r, d is to the left of r and s is to the left of d.
--   Where s is to the right of r, d is anywhere but from s to r: to the left of r, or s is to the left of d.
--   Where s is opposite to r, d is to the left of r.
--   Where s points the same way as r, the sector is the whole turn, and d points another way.
pub record IsStrictlyWithin (r s d : Direction) : Type 0 where
  pub left : pos 0 <ℤ bend_of r s → (pos 0 <ℤ bend_of r d) × (pos 0 <ℤ bend_of d s)
  pub right : bend_of r s <ℤ pos 0 → (pos 0 <ℤ bend_of r d) ⊎ (pos 0 <ℤ bend_of d s)
  pub opposite : bend_of r s ≡ pos 0 → ¬ PointSameWay r s → pos 0 <ℤ bend_of r d
  pub same : PointSameWay r s → ¬ PointSameWay r d

-- The middle of the sector from r to s: the sum of the two where s is to the left of r, else r turned left by a quarter.
pub record IsMiddleBetween (r s m : Direction) : Type 0 where
  pub sum : pos 0 <ℤ bend_of r s → (m.x ≡ r.x +ℤ s.x) × (m.y ≡ r.y +ℤ s.y)
  pub quarter : bend_of r s ≤ℤ pos 0 → (m.x ≡ neg_ℤ r.y) × (m.y ≡ r.x)
