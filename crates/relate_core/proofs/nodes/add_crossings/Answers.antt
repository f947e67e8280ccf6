use Rattle.std.proofs.Common.{◌∙◌, ap, length, arith}
use Rattle.point_set.specs.Nodes.{segs_of}
use Rattle.relate_core.specs.NodeSets.{CrossesOne}
use Rattle.relate_core.proofs.Passes.{crossings_next}
use Rattle.relate_core.proofs.Sets.{adds_all}
use Rattle.relate_core.proofs.nodes.add_crossings.Goals as goal

pub loop-edge-preserved : goal.loop-edge-preserved
loop-edge-preserved g c =
    let i = c.loop-edge.invariant in
    record {
      figure = c.in_ok-add_crossings_with.ensures.figure ∙ i.figure;
      looks = c.in_ok-add_crossings_with.ensures.looks ∙ i.looks;
      added =
          crossings_next c.args.w (g.T.Target.figure c.args.t.now) (g.T.Target.figure c.loop-edge.t) i.figure
          c.as_slice-edge-items.result.now c.args.edges.now c.loop-edge.edge-index _ c.as_slice-edge-items.ensures.items
          c.loop-edge-test.true c.args.nodes.now c.loop-edge.nodes c.add_crossings_with.new.nodes
          c.in_ok-add_crossings_with.ensures.nodes i.added;
    }

pub returns-clause-nodes : goal.returns-clause-nodes
returns-clause-nodes g c =
    adds_all c.args.w (λ e. CrossesOne e (segs_of (g.T.Target.figure c.args.t.now))) c.args.edges.now c.loop-edge.edge-index
    c.args.nodes.now c.loop-edge.nodes
    (let same = ap length c.as_slice-edge-items.ensures.items in omega (arith, same, c.loop-edge-test.false))
    c.loop-edge.invariant.added
