-- The first positions of the lines before are in.
use Rattle.relate_core.specs.NodeSets.{AddsNear, IsAtFirst}
use Rattle.relate_core.proofs.Sets.{IsOfBefore}
use Rattle.relate_core.proofs.nodes.add_starts.Given as goal

abbrev pub invariant-loop-line : goal.invariant-loop-line
invariant-loop-line l = AddsNear l.w (IsOfBefore IsAtFirst l.lines l.line-index) l.fn.nodes l.nodes
