-- The walk has what it had left, and fewer rings each time.
use Rattle.std.proofs.Common.{◌≡◌, length}
use Rattle.area_locator.specs.AreaEdges.{edges_left}
use Rattle.area_locator.proofs.edges.AreaEdgesIterator.next.Given as goal

abbrev pub invariant-loop-edge : goal.invariant-loop-edge
invariant-loop-edge l = edges_left l.self ≡ edges_left l.initial.self

abbrev pub decreases-loop-edge : goal.decreases-loop-edge
decreases-loop-edge l = length l.self.rings.now
