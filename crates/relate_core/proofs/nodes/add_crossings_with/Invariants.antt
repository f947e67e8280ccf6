-- The crossings with the edges at the places before are in.
use Rattle.point_set.specs.Edges.{edges_of_figure}
use Rattle.relate_core.specs.NodeSets.{AddsNear}
use Rattle.relate_core.proofs.Sets.{IsOfBefore}
use Rattle.relate_core.proofs.Crossings.{CrossesAt}
use Rattle.relate_core.proofs.nodes.add_crossings_with.Given as goal

abbrev pub invariant-loop-place : goal.invariant-loop-place
invariant-loop-place g l =
    AddsNear l.w (IsOfBefore (CrossesAt l.edge (edges_of_figure (g.T.Target.figure l.t))) l.place-items l.place-index) l.fn.nodes l.nodes
