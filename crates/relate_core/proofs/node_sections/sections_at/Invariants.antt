-- The sections of the edges at the places before are in.
use Rattle.plane_exact.specs.NodePoints.{point_at}
use Rattle.relate_core.proofs.EdgeSections.{HasSectionsBefore}
use Rattle.relate_core.proofs.node_sections.sections_at.Given as goal

abbrev pub invariant-loop-place : goal.invariant-loop-place
invariant-loop-place g l =
    HasSectionsBefore l.which (g.T.Target.figure l.t) (point_at l.n) l.place-items l.place-index l.fn.out l.out
