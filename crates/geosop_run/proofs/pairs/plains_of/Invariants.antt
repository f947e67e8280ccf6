-- The figures so far.
use Rattle.std.proofs.Common.{◌≡◌, map, take}
use Rattle.geosop_run.proofs.pairs.plains_of.Given as goal

abbrev pub invariant-loop-figure : goal.invariant-loop-figure
invariant-loop-figure l = map (λ b. b.figure) l.plains.items ≡ take l.figure-index l.figures
