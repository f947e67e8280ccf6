use Rattle.std.proofs.Common.{◌+◌, List, [], append-nil, sym, ◌∙◌, subst, arith}
use Rattle.plane_exact.specs.NodePoints.{point_at}
use Rattle.point_set.specs.declared.figure.Figure.{Figure}
use Rattle.fan_order.specs.declared.section.Section.{Section}
use Rattle.relate_core.specs.Tables.{AddsSectionsAt}
use Rattle.relate_core.proofs.EdgeSections.{HasSectionsBefore, of_edge, none_of_edge, sections_more, all_sections}
use Rattle.relate_core.proofs.FigureEdges.{as_read, place_within}
use Rattle.relate_core.proofs.node_sections.sections_at.Goals as goal
use Rattle.relate_core.proofs.node_sections.sections_at.Goals.{then-on_segment+in_ok-add_sections, else-on_segment}

pub edge_at-edge-requires : goal.edge_at-edge-requires
edge_at-edge-requires g c =
    record { within = place_within c.as_slice-place-items.ensures.items c.in_ok-edges_in.ensures.places c.loop-place-test.true }

pub loop-place-preserved : goal.loop-place-preserved
loop-place-preserved g c =
    let f = g.T.Target.figure c.edges_in.new.self in
    let v = point_at c.args.n.now in
    let which = c.args.which in
    let old = c.args.out.now in
    let places = c.as_slice-place-items.result.now in
    let near = as_read f c.round-around.result places _ c.as_slice-place-items.ensures.items c.in_ok-edges_in.ensures.places in
    let k = c.loop-place.place-index in
    let out = c.loop-place.out in
    let edge = c.edge_at-edge.result in
    let is = c.edge_at-edge.ensures.edge.is in
    elim c.if-on_segment.branch [
      | then-on_segment+in_ok-add_sections w ↦
          (let adds = w.in_ok-add_sections.ensures.sections in
          subst (λ (xs : List Section). HasSectionsBefore which f v places (k + 1) old xs) (sym w.out-is)
          (sections_more which f v c.round-around.result c.round-around.ensures.least places near k old out c.loop-place.invariant
          c.loop-place-test.true
          (record { seg = edge.seg; owner = edge.owner }) is adds.more
          (of_edge which f v edge c.edge_at-edge.ensures.hand (c.on_segment.ensures.on.0 w.if-on_segment.true) adds.more adds.are)
          w.add_sections.new.out adds.new_is w.in_ok-add_sections.ensures.short))
      | else-on_segment w ↦
          subst (λ (xs : List Section). HasSectionsBefore which f v places (k + 1) old xs) (sym w.out-is)
          (sections_more which f v c.round-around.result c.round-around.ensures.least places near k old out c.loop-place.invariant
          c.loop-place-test.true
          (record { seg = edge.seg; owner = edge.owner }) is []
          (none_of_edge which f v (record { seg = edge.seg; owner = edge.owner })
          (λ on. (let both = sym (c.on_segment.ensures.on.1 on) ∙ w.if-on_segment.false in cc)))
          out (sym (append-nil out)) (λ s. s))
    ]

pub returns-clause-sections : goal.returns-clause-sections
returns-clause-sections g c =
    let f = g.T.Target.figure c.edges_in.new.self in
    let v = point_at c.args.n.now in
    let places = c.as_slice-place-items.result.now in
    let near = as_read f c.round-around.result places _ c.as_slice-place-items.ensures.items c.in_ok-edges_in.ensures.places in
    subst (λ (z : Figure). AddsSectionsAt c.args.which z v c.args.out.now c.loop-place.out) c.in_ok-edges_in.ensures.figure
    (all_sections c.args.which f v c.round-around.result c.round-around.ensures.least places near c.loop-place.place-index c.args.out.now
    c.loop-place.out c.loop-place.invariant (omega (arith, c.loop-place-test.false)))
