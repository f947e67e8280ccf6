use Rattle.std.proofs.Common.{ap, length, arith}
use Rattle.relate_core.specs.NodeSets.{IsAtEitherEnd}
use Rattle.relate_core.proofs.Passes.{ends_next}
use Rattle.relate_core.proofs.Sets.{adds_all}
use Rattle.relate_core.proofs.nodes.add_ends.Goals as goal

pub loop-edge-preserved : goal.loop-edge-preserved
loop-edge-preserved c =
    ends_next c.args.w c.as_slice-edge-items.result.now c.args.edges.now c.loop-edge.edge-index _ c.as_slice-edge-items.ensures.items
    c.loop-edge-test.true c.args.nodes.now c.loop-edge.nodes c.add_position.new.nodes c.add_position-in-loop-edge.new.nodes
    c.in_ok-add_position.ensures.nodes c.in_ok-add_position-2.ensures.nodes c.loop-edge.invariant

pub returns : goal.returns
returns c = record {
  nodes =
      adds_all c.args.w IsAtEitherEnd c.args.edges.now c.loop-edge.edge-index c.args.nodes.now c.loop-edge.nodes
      (let same = ap length c.as_slice-edge-items.ensures.items in omega (arith, same, c.loop-edge-test.false)) c.loop-edge.invariant;
}
