-- None of the areas near so far is an earlier one of the group that has this in common with the one at the place.
use Rattle.std.proofs.Common.{◌≡◌}
use Rattle.geom_valid.specs.Elements.{HaveInCommon}
use Rattle.geom_valid.proofs.NearPlaces.{IsSoEarlier}
use Rattle.geom_valid.proofs.RingLists.{NoneBefore}
use Rattle.geom_valid.proofs.elements.has_common_with_earlier.Given as goal

abbrev pub invariant-loop-other : goal.invariant-loop-other
invariant-loop-other l =
    NoneBefore
    (IsSoEarlier (λ other. (l.group ≡ other.group) × HaveInCommon l.what l.sound other) l.f.areas l.place) l.other-items l.other-index
