use Rattle.std.proofs.Common.{◌≡◌, map, []}
use Rattle.std.specs.List.{range_with_len}
use Rattle.sample_figures.specs.Samples.{position_at}
use Rattle.sample_figures.proofs.parts.points_in_row.Given as goal

-- the points so far
abbrev pub invariant-loop-x : goal.invariant-loop-x
invariant-loop-x l =
    (l.figure.points ≡ map (λ i. position_at i 0) (range_with_len 0 l.x)) × (l.figure.lines ≡ []) × (l.figure.areas ≡ [])
