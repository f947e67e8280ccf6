-- None of the holes near so far is an earlier one that overlaps the one at the place.
use Rattle.valid_laws.specs.Entering.{AreBothInside}
use Rattle.geom_valid.proofs.NearPlaces.{IsSoEarlier}
use Rattle.geom_valid.proofs.RingLists.{NoneBefore}
use Rattle.geom_valid.proofs.ring_set.RingSet.overlaps_earlier.Given as goal

abbrev pub invariant-loop-other : goal.invariant-loop-other
invariant-loop-other l = NoneBefore (IsSoEarlier (λ one. AreBothInside one l.hole) l.self.holes l.place) l.other-items l.other-index
