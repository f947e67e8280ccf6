use Rattle.std.proofs.Common.{[], sym, ◌∙◌}
use Rattle.plane_laws.proofs.Points.Same.{same_sym}
use Rattle.plane_exact.specs.NodePoints.{point_at}
use Rattle.box_laws.proofs.Boxes.Round.{near_by_least, near_same}
use Rattle.relate_core.proofs.Sets.{adds_none, adds_node}
use Rattle.relate_core.proofs.nodes.add_near.Goals as goal

pub returns-in_ok-add_node : goal.returns-in_ok-add_node
returns-in_ok-add_node c =
    let near = near_by_least c.args.w c.round.result (point_at c.args.n) c.round.ensures.least in
    record {
      nodes =
          adds_node c.args.w c.args.nodes.now c.add_node.new.self c.args.n [] c.in_ok-add_node.ensures.added
          (near.1 (c.meets.ensures.common.0 c.if-meets.true));
    }

pub returns-else-meets : goal.returns-else-meets
returns-else-meets c =
    let near = near_by_least c.args.w c.round.result (point_at c.args.n) c.round.ensures.least in
    record {
      nodes =
          adds_none c.args.w c.args.nodes.now
          (λ v at same.
          let both = sym (c.meets.ensures.common.1 (near.0 (near_same c.args.w (same_sym same) at))) ∙ c.if-meets.false in
          cc);
    }
