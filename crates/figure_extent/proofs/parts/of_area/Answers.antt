use Rattle.point_set.specs.Nodes.{positions_of_ways}
use Rattle.figure_extent.proofs.parts.of_area.Goals as goal

pub returns : goal.returns
returns c =
    let area = c.args.area.now in
    record {
      envelope = c.joined.ensures.envelope area.shell (positions_of_ways area.holes) c.of_way.ensures.envelope c.of_ways.ensures.envelope;
    }
