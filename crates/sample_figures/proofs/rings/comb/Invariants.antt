use Rattle.std.proofs.Common.{◌≡◌, ◌*◌, ◌-◌, ◌++◌, ◌∷◌}
use Rattle.sample_figures.specs.Samples.{over_teeth, position_at}
use Rattle.sample_figures.proofs.rings.comb.Given as goal

-- with the way over the teeth that are left, the way so far is the way along the base and over all teeth
abbrev pub invariant-loop-tooth : goal.invariant-loop-tooth
invariant-loop-tooth l =
    l.ring ++ over_teeth l.height l.tooth ≡ position_at 0 0 ∷ position_at (2 * l.teeth - 1) 0 ∷ over_teeth l.height l.teeth
