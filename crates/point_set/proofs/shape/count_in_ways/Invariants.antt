-- The total is that of the lines so far, as far as counting goes.
use Rattle.std.proofs.Common.{◌≡◌, ◌+◌, length, sum_by, min, take}
use Rattle.point_set.proofs.shape.count_in_ways.Given as goal

abbrev pub invariant-loop-way : goal.invariant-loop-way
invariant-loop-way l = l.total ≡ min 1048577 (l.count + sum_by length (take l.way-index l.way-items))
