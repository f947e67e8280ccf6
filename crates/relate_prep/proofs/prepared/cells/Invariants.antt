-- There are as many cells as were counted.
use Rattle.std.proofs.Common.{◌≡◌, length}
use Rattle.relate_prep.proofs.prepared.cells.Given as goal

abbrev pub invariant-loop : goal.invariant-loop
invariant-loop l = length l.cells ≡ l.counter
