-- Counts of faults, calls and bytes: one begins with 0, never falls, and ends at 2^64 - 1.
use Rattle.std.specs.Prelude.{◌≡◌, ℕ, ◌+◌, ◌-◌, ◌^◌, ◌<◌, min, ◌⊎◌}

-- The count with so many more; it stays once it stands at its end.
abbrev pub more_by : ℕ → ℕ → ℕ
more_by more count = min (count + more) (2 ^ 64 - 1)

-- The count with one more.
abbrev pub one_more : ℕ → ℕ
one_more count = min (count + 1) (2 ^ 64 - 1)

-- The count rose, or stands at its end.
abbrev pub IsRisen : ℕ → ℕ → Type 0
IsRisen old new = (old < new) ⊎ (new ≡ 2 ^ 64 - 1)
