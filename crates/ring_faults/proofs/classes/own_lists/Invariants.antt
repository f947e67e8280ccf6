-- The lists of the rings before the index.
use Rattle.std.proofs.Common.{◌≡◌, map, take}
use Rattle.ring_faults.specs.Classes.{lists_of}
use Rattle.ring_faults.proofs.ClassSteps.{alone}
use Rattle.ring_faults.proofs.classes.own_lists.Given as goal

abbrev pub invariant-loop-ring : goal.invariant-loop-ring
invariant-loop-ring l = lists_of l.lists.items ≡ map alone (take l.ring-index l.rings)
