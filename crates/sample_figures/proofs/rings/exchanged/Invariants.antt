use Rattle.std.proofs.Common.{◌≡◌, map, take}
use Rattle.sample_figures.specs.Samples.{exchanged}
use Rattle.sample_figures.proofs.rings.exchanged.Given as goal

-- the positions so far, exchanged
abbrev pub invariant-loop-p : goal.invariant-loop-p
invariant-loop-p l = l.other ≡ map exchanged (take l.p-index l.way)
