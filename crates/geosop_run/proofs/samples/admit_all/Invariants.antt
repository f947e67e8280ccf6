-- Those that are left and, turned, those admitted are the figures; what is left is sound.
use Rattle.std.proofs.Common.{◌≡◌, ◌++◌, length, reverse}
use Rattle.std.specs.List.{All}
use Rattle.geosop_run.specs.Sources.{IsSound}
use Rattle.geosop_run.proofs.samples.admit_all.Given as goal

abbrev pub invariant-loop-figure : goal.invariant-loop-figure
invariant-loop-figure l = record {
  order : l.figures ++ reverse l.valids ≡ l.fn.figures;
  sound : All IsSound l.figures;
}

abbrev pub decreases-loop-figure : goal.decreases-loop-figure
decreases-loop-figure l = length l.figures
