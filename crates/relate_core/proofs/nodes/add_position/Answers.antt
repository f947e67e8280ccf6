use Rattle.std.proofs.Common.{sym, ◌∙◌}
use Rattle.relate_core.proofs.Passes.{position_added, position_far}
use Rattle.relate_core.proofs.nodes.add_position.Goals as goal

pub returns-in_ok-add_node : goal.returns-in_ok-add_node
returns-in_ok-add_node c = record {
  nodes =
      position_added c.args.w c.args.p c.of.result c.of.ensures.least c.args.nodes.now c.add_node.new.self c.at_point.result
      c.at_point.ensures.point c.in_ok-add_node.ensures.added (c.meets.ensures.common.0 c.if-meets.true);
}

pub returns-else-meets : goal.returns-else-meets
returns-else-meets c = record {
  nodes =
      position_far c.args.w c.args.p c.of.result c.of.ensures.least c.args.nodes.now
      (λ common. let both = sym (c.meets.ensures.common.1 common) ∙ c.if-meets.false in cc);
}
