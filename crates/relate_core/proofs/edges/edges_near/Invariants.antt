-- The list has the edges at the places before.
use Rattle.relate_core.proofs.FigureEdges.{AreEdgesBefore}
use Rattle.relate_core.proofs.edges.edges_near.Given as goal

abbrev pub invariant-loop-place : goal.invariant-loop-place
invariant-loop-place g l = AreEdgesBefore (g.T.Target.figure l.t) l.place-items l.place-index l.edges
