-- No edge of a line at the places before holds the node.
use Rattle.plane_exact.specs.NodePoints.{point_at}
use Rattle.union_locator.proofs.OnLines.{IsOffLinesBefore}
use Rattle.union_locator.proofs.nearby.Nearby.is_on_line.Given as goal

abbrev pub invariant-loop-place : goal.invariant-loop-place
invariant-loop-place l = IsOffLinesBefore l.self.rows.now l.self.places.now (point_at l.self.node.now) l.place-index
