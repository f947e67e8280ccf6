use Rattle.std.proofs.lemmas.Result.{on_ok_weaker}
use Rattle.relate_core.proofs.Together.{positions_added}
use Rattle.relate_core.proofs.nodes.add_positions.Goals as goal

pub returns : goal.returns
returns c = record {
  nodes =
      on_ok_weaker c.add_ends.result
      (λ ends.
      positions_added c.args.w c.args.figure.now c.requires.valid c.args.edges.now c.requires.edges c.args.nodes.now c.add_points.new.nodes
      c.add_starts.new.nodes c.add_ends.new.nodes c.in_ok-add_points.ensures.nodes c.in_ok-add_starts.ensures.nodes ends)
      c.add_ends.ensures.nodes;
}
