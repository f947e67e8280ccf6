-- The labels are those of the links before the place.
use Rattle.std.proofs.Common.{◌≡◌, ◌+◌, length, take}
use Rattle.ring_faults.proofs.forest.have_cycle.Given as goal
use Rattle.ring_faults.proofs.Forests.{IsForest}

abbrev pub invariant-loop-i : goal.invariant-loop-i
invariant-loop-i l = record {
  forest : IsForest (take l.i l.links) l.classes;
  count : length l.classes ≡ l.last + 1;
}
