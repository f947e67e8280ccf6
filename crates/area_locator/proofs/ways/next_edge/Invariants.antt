-- The positions so far are equal to the last one, and are no edge.
use Rattle.std.proofs.Common.{◌≡◌, length}
use Rattle.point_set.specs.Rings.{edges_after}
use Rattle.area_locator.proofs.ways.next_edge.Given as goal

abbrev pub invariant-loop-p : goal.invariant-loop-p
invariant-loop-p l = edges_after l.last l.rest ≡ edges_after l.last l.positions

abbrev pub decreases-loop-p : goal.decreases-loop-p
decreases-loop-p l = length l.rest
