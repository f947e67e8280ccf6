use Rattle.std.proofs.Common.{◌+◌, List, get_or, sym, subst, arith}
use Rattle.point_set.specs.declared.figure.Figure.{Figure}
use Rattle.point_set.specs.Edges.{OwnedEdge, edges_of_figure}
use Rattle.point_set.specs.Nodes.{segs_of}
use Rattle.std.proofs.lemmas.Option.{slice_get-get_or}
use Rattle.seg_cross.specs.Meets.{IsMeet}
use Rattle.seg_cross.specs.declared.answer.Meet.{Meet}
use Rattle.node_table.specs.declared.entry.Entry.{Entry}
use Rattle.relate_core.specs.NodeSets.{AddsNear, CrossesOne}
use Rattle.relate_core.proofs.Crossings.{CrossesAt, crossing_added, no_crossing, all_crossings}
use Rattle.relate_core.proofs.FigureEdges.{as_read, place_within}
use Rattle.relate_core.proofs.Sets.{IsOfBefore, adds_next, adds_all}
use Rattle.relate_core.proofs.nodes.add_crossings_with.Goals as goal
use Rattle.relate_core.proofs.nodes.add_crossings_with.Goals.{in-At+in_ok-add_near, in_default}

pub edge_at-requires : goal.edge_at-requires
edge_at-requires g c =
    record { within = place_within c.as_slice-place-items.ensures.items c.in_ok-edges_in.ensures.places c.loop-place-test.true }

pub loop-place-preserved : goal.loop-place-preserved
loop-place-preserved g c =
    let edges = edges_of_figure (g.T.Target.figure c.edges_in.new.self) in
    let places = c.as_slice-place-items.result.now in
    let k = c.loop-place.place-index in
    let e = c.args.edge in
    let Set = CrossesAt e edges in
    let place = get_or places k 0 in
    let edge = c.edge_at.result in
    let other : OwnedEdge = record { seg = edge.seg; owner = edge.owner } in
    let is = c.edge_at.ensures.edge.is in
    let old = c.args.nodes.now in
    let mid = c.loop-place.nodes in
    let at = slice_get-get_or places k 0 c.loop-place-test.true in
    elim c.match-meet.branch [
      | in-At+in_ok-add_near w ↦
          subst (λ (t : List Entry). AddsNear c.args.w (IsOfBefore Set places (k + 1)) old t) (sym w.nodes-is)
          (adds_next c.args.w Set places k place old mid w.add_near.new.nodes at c.loop-place.invariant
          (crossing_added c.args.w e edges place other is w.in-At.n mid w.add_near.new.nodes
          (subst (λ (m : Meet). IsMeet e edge.seg m) w.in-At.is c.meet.ensures.exact) w.in_ok-add_near.ensures.nodes))
      | in_default w ↦
          subst (λ (t : List Entry). AddsNear c.args.w (IsOfBefore Set places (k + 1)) old t) (sym w.nodes-is)
          (adds_next c.args.w Set places k place old mid mid at c.loop-place.invariant
          (no_crossing c.args.w e edges place other is c.meet.result mid c.meet.ensures.exact w.in_default.not-At))
    ]

pub returns-clause-nodes : goal.returns-clause-nodes
returns-clause-nodes g c =
    let f = g.T.Target.figure c.edges_in.new.self in
    let places = c.as_slice-place-items.result.now in
    let near = as_read f c.shared.result places _ c.as_slice-place-items.ensures.items c.in_ok-edges_in.ensures.places in
    subst (λ (z : Figure). AddsNear c.args.w (CrossesOne c.args.edge (segs_of z)) c.args.nodes.now c.loop-place.nodes)
    c.in_ok-edges_in.ensures.figure
    (all_crossings f c.args.edge c.args.w c.of.result c.shared.result c.of.ensures.least c.shared.ensures.holds places
    near c.args.nodes.now c.loop-place.nodes
    (adds_all c.args.w (CrossesAt c.args.edge (edges_of_figure f)) places c.loop-place.place-index c.args.nodes.now c.loop-place.nodes
    (omega (arith, c.loop-place-test.false)) c.loop-place.invariant))
