use Rattle.std.proofs.Common.{List, length, ap, sym, subst, arith}
use Rattle.std.specs.List.{All}
use Rattle.std.proofs.lemmas.List.{length-map}
use Rattle.std.proofs.lemmas.List.Elements.{All-map, All-weaker}
use Rattle.plane_exact.specs.declared.point.Seg.{Seg}
use Rattle.point_set.specs.declared.edge.Edge.{Edge}
use Rattle.area_entry.specs.RowSections.{IsRowSound}
use Rattle.area_locator.specs.Indexed.{IsEdge}
use Rattle.geom_valid.proofs.heights.heights_of.Goals as goal

pub over-requires-clause-few : goal.over-requires-clause-few
over-requires-clause-few c =
    let few = c.requires.few in
    let segs = c.in_ok-segs.ensures.segs in
    omega (arith, few, ap length segs, length-map c.args.rows.now (λ (row : Edge). row.seg))

pub over-requires-clause-proper : goal.over-requires-clause-proper
over-requires-clause-proper c =
    let rows = c.args.rows.now in
    subst (λ (segs : List Seg). All IsEdge segs) (sym c.in_ok-segs.ensures.segs)
    (All-map IsEdge (λ (row : Edge). row.seg) rows
    (All-weaker IsRowSound (λ row. IsEdge row.seg)
    (λ row h. record { start = h.start; end = h.end; apart = h.moves }) rows c.requires.sound))
