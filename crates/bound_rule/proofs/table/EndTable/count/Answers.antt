use Rattle.std.proofs.Common.{◌∙◌, ap}
use Rattle.plane_exact.specs.NodePoints.{point_at}
use Rattle.point_set.specs.Lines.{ends_of_lines, count_at}
use Rattle.bound_rule.specs.Ends.{SeenEnds}
use Rattle.bound_rule.proofs.LineEnds.{count-permutation}
use Rattle.bound_rule.proofs.table.EndTable.count.Goals as goal

pub returns-clause-figure : goal.returns-clause-figure
returns-clause-figure c = λ f are.
    c.count.ensures.count ∙ ap (λ (seen : SeenEnds). count_at (point_at c.args.n.now) seen.ends) c.self.view_is
    ∙ count-permutation (point_at c.args.n.now) (ends_of_lines f.lines) c.args.self.now.ends are.ends
