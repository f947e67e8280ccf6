-- The ends of the edges before are in.
use Rattle.relate_core.specs.NodeSets.{AddsNear, IsAtEitherEnd}
use Rattle.relate_core.proofs.Sets.{IsOfBefore}
use Rattle.relate_core.proofs.nodes.add_ends.Given as goal

abbrev pub invariant-loop-edge : goal.invariant-loop-edge
invariant-loop-edge l = AddsNear l.w (IsOfBefore IsAtEitherEnd l.edges l.edge-index) l.fn.nodes l.nodes
