use Rattle.std.proofs.Common.{◌∙◌, ap}
use Rattle.plane_exact.specs.NodePoints.{point_at}
use Rattle.point_set.specs.Lines.{is_at_some}
use Rattle.bound_rule.specs.Ends.{SeenEnds}
use Rattle.bound_rule.proofs.table.EndTable.is_spot.Goals as goal

pub returns-clause-figure : goal.returns-clause-figure
returns-clause-figure c = λ f are.
    c.has.ensures.spot ∙ ap (λ (seen : SeenEnds). is_at_some (point_at c.args.n.now) seen.spots) c.self.view_is
    ∙ are.spots (point_at c.args.n.now)
