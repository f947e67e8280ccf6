-- The positions before are in.
use Rattle.relate_core.specs.NodeSets.{AddsNear, IsAtPosition}
use Rattle.relate_core.proofs.Sets.{IsOfBefore}
use Rattle.relate_core.proofs.nodes.add_points.Given as goal

abbrev pub invariant-loop-p : goal.invariant-loop-p
invariant-loop-p l = AddsNear l.w (IsOfBefore IsAtPosition l.points l.p-index) l.fn.nodes l.nodes
