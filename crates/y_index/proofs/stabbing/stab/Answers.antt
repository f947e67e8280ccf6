use Rattle.plane_exact.specs.NodePoints.{point_at}
use Rattle.y_index.proofs.Folds.{FoldsTo-value}
use Rattle.y_index.proofs.Looks.{whole_part, folded_all, used_all}
use Rattle.y_index.specs.Heights.{items_at}
use Rattle.y_index.proofs.stabbing.stab.Goals as goal

pub stab_part-requires-clause-part : goal.stab_part-requires-clause-part
stab_part-requires-clause-part g c =
    whole_part c.level_of-level.ensures.level (g.T.Spans.rows c.args.rows.now) c.count-count.result c.count-count.ensures.count

pub returns-clause-fold : goal.returns-clause-fold
returns-clause-fold g c =
    folded_all c.level_of-level.ensures.level (g.T.Spans.rows c.args.rows.now) c.count-count.result c.count-count.ensures.count
    _ c.args.start c.stab_part.result c.stab_part.ensures.fold

pub returns-clause-value : goal.returns-clause-value
returns-clause-value g c = λ f gives.
    FoldsTo-value _ f gives c.args.start (items_at (point_at c.args.n.now) (g.T.Spans.rows c.args.rows.now)) c.stab_part.result
    (folded_all c.level_of-level.ensures.level (g.T.Spans.rows c.args.rows.now) c.count-count.result c.count-count.ensures.count
    _ c.args.start c.stab_part.result c.stab_part.ensures.fold)

pub returns-clause-used : goal.returns-clause-used
returns-clause-used g c =
    used_all c.level_of-level.ensures.level (g.T.Spans.rows c.args.rows.now) c.count-count.result c.count-count.ensures.count
    _ _ c.stab_part.ensures.used
