-- Sides of a line, by the signs of turns.
use Rattle.std.specs.Prelude.{ℤ, pos, ◌<ℤ◌, ◌⊎◌}

-- Both numbers are positive, or both are negative.
abbrev pub IsOneSide : ℤ → ℤ → Type 0
IsOneSide a b = ((pos 0 <ℤ a) × (pos 0 <ℤ b)) ⊎ ((a <ℤ pos 0) × (b <ℤ pos 0))
