use Rattle.std.proofs.Common.{subst, arith}
use Rattle.point_set.specs.declared.figure.Figure.{Figure}
use Rattle.relate_core.specs.NodeSets.{AreEdgesNear}
use Rattle.relate_core.proofs.FigureEdges.{as_read, place_within, edge_more, all_near}
use Rattle.relate_core.proofs.edges.edges_near.Goals as goal

pub edge_at-requires : goal.edge_at-requires
edge_at-requires g c =
    record { within = place_within c.as_slice-place-items.ensures.items c.in_ok-edges_in.ensures.places c.loop-place-test.true }

pub loop-place-preserved : goal.loop-place-preserved
loop-place-preserved g c =
    edge_more (g.T.Target.figure c.edges_in.new.self) c.as_slice-place-items.result.now c.loop-place.place-index c.loop-place.edges
    c.push.new.self c.edge_at.result c.edge_at.ensures.ends c.edge_at.ensures.edge c.in_ok-push.ensures.ok c.loop-place.invariant

pub returns-clause-edges : goal.returns-clause-edges
returns-clause-edges g c =
    let f = g.T.Target.figure c.edges_in.new.self in
    let places = c.as_slice-place-items.result.now in
    let near = as_read f c.args.w places _ c.as_slice-place-items.ensures.items c.in_ok-edges_in.ensures.places in
    subst (λ (z : Figure). AreEdgesNear c.args.w z c.loop-place.edges) c.in_ok-edges_in.ensures.figure
    (all_near f c.args.w places near c.loop-place.place-index (omega (arith, c.loop-place-test.false)) c.loop-place.edges
    c.loop-place.invariant)
