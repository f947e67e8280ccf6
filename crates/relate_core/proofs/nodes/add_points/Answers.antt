use Rattle.std.proofs.Common.{ap, length, arith}
use Rattle.relate_core.specs.NodeSets.{IsAtPosition}
use Rattle.relate_core.proofs.Passes.{position_next}
use Rattle.relate_core.proofs.Sets.{adds_all}
use Rattle.relate_core.proofs.nodes.add_points.Goals as goal

pub loop-p-preserved : goal.loop-p-preserved
loop-p-preserved c =
    position_next c.args.w c.as_slice-p-items.result.now c.args.points.now c.loop-p.p-index _ c.as_slice-p-items.ensures.items
    c.loop-p-test.true c.args.nodes.now c.loop-p.nodes c.add_position.new.nodes c.in_ok-add_position.ensures.nodes c.loop-p.invariant

pub returns : goal.returns
returns c = record {
  nodes =
      adds_all c.args.w IsAtPosition c.args.points.now c.loop-p.p-index c.args.nodes.now c.loop-p.nodes
      (let same = ap length c.as_slice-p-items.ensures.items in omega (arith, same, c.loop-p-test.false)) c.loop-p.invariant;
}
