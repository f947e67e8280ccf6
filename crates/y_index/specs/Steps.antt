-- How far a meter rises where rows are looked at: one step for each look.
use Rattle.std.specs.Prelude.{ℕ, ◌+◌, ◌*◌, ◌^◌, ◌<◌, ◌≤◌}

-- The meter rises by at most 2 * (k + 1) * (b + 2), where k is the number of hits and b that of the binary digits of the count
-- of all rows. It is said of every number of digits that is enough for the count, and so of the least.
abbrev pub RisesWithin : ℕ → ℕ → ℕ → ℕ → Type 0
RisesWithin hits count old new = (digits : ℕ) → count < 2 ^ digits → new ≤ old + 2 * (hits + 1) * (digits + 2)
