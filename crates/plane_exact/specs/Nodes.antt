-- Nodes: points whose coordinates are reduced fractions.
use Rattle.std.specs.Prelude.{◌≡◌, ℕ, ℤ, pos, ◌+ℤ◌, ◌-ℤ◌, ◌*ℤ◌, neg_ℤ, ◌<ℤ◌, ◌≤ℤ◌, unsigned_abs}
use Prim.Native.Nat.{◌∣◌}
use Rattle.plane_exact.specs.Limits.{limit, heaviest}

-- The fraction x/w: w is positive and below 2^44, and the fraction has a size of at most the limit.
pub record IsFraction (x w : ℤ) : Type 0 where
  pub heavy : pos 0 <ℤ w
  pub light : w <ℤ pos heaviest
  pub low : neg_ℤ (pos limit *ℤ w) ≤ℤ x
  pub high : x ≤ℤ (pos limit *ℤ w)

-- Only 1 divides all three numbers.
pub record IsReduced (x y w : ℤ) : Type 0 where
  pub only : (d : ℕ) → d ∣ unsigned_abs x → d ∣ unsigned_abs y → d ∣ unsigned_abs w → d ≡ 1

-- The whole numbers low and high are the nearest ones round the fraction x/w: itself twice, or the two next to it.
pub record IsRange (x w low high : ℤ) : Type 0 where
  pub below : (low *ℤ w) ≤ℤ x
  pub above : x ≤ℤ (high *ℤ w)
  pub lowest : x <ℤ ((low +ℤ pos 1) *ℤ w)
  pub highest : ((high -ℤ pos 1) *ℤ w) <ℤ x
