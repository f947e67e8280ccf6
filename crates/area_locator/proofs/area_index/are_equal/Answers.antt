use Rattle.area_locator.proofs.ShapedEdges.{edges_equal}
use Rattle.area_locator.proofs.area_index.are_equal.Goals as goal

pub returns : goal.returns
returns c = record { equal = edges_equal c.eq.result c.args.edge c.args.other c.eq.ensures }
