use Rattle.std.proofs.Common.{subst}
use Rattle.point_set.specs.declared.figure.Figure.{Figure}
use Rattle.point_set.specs.Shape.{IsWellShaped}
use Rattle.relate_core.proofs.FigureEdges.{two_ends}
use Rattle.relate_core.proofs.edges.edge_at.Goals as goal

pub returns-clause-ends : goal.returns-clause-ends
returns-clause-ends g c =
    two_ends (g.T.Target.figure c.args.t.now) c.args.place c.edge.result
    (subst (λ (f : Figure). IsWellShaped f) c.valid.ensures.figure c.figure-well_shaped.ensures.shaped) c.edge.ensures.edge
