use Rattle.figure_laws.proofs.Valid.Pairs.{are_valid}
use Rattle.node_laws.proofs.Visible.OffEdges.{visible_off}
use Rattle.node_laws.proofs.Visible.OnEdge.{visible_on}
use Rattle.cell_laws.proofs.laws.law_visible.Goals as goal

pub returns : goal.returns
returns c =
    let valid = are_valid c.figure.ensures.shaped c.figure.ensures.valid c.figure-2.ensures.shaped c.figure-2.ensures.valid in
    record {
      off_edges = visible_off c.args.a.now c.args.b.now valid.a_shaped valid.b_shaped c.args.rule;
      on_edge = visible_on c.args.a.now c.args.b.now valid c.args.rule;
    }
