use Rattle.std.proofs.Common.{◌≡◌, ◌*◌, map, [], ◌∷◌}
use Rattle.std.specs.List.{range_with_len}
use Rattle.sample_figures.specs.Samples.{position_at, square_at}
use Rattle.sample_figures.proofs.parts.squares_and_line.Given as goal

-- the line, and the squares so far
abbrev pub invariant-loop-place : goal.invariant-loop-place
invariant-loop-place l =
    (l.figure.points ≡ []) × (l.figure.lines ≡ (position_at 0 0 ∷ position_at (2 * l.count) 0 ∷ []) ∷ [])
    × (l.figure.areas ≡ map square_at (range_with_len 0 l.place))
