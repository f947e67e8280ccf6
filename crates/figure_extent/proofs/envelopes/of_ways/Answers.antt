use Rattle.std.proofs.Common.{◌∙◌, ◌<◌, refl, ap, length, get_or, List, arith}
use Rattle.plane_exact.specs.declared.point.Pt.{Pt}
use Rattle.point_set.specs.Nodes.{positions_of_ways}
use Rattle.figure_extent.proofs.SoFar.{one_item_more}
use Rattle.figure_extent.proofs.envelopes.of_ways.Goals as goal

pub loop-way-preserved : goal.loop-way-preserved
loop-way-preserved c =
    let ways = c.args.ways.now in
    let place = c.loop-way.way-index in
    let way = c.way-item.result in
    let same = c.as_slice-way-items.ensures.items in
    let below : place < length ways = omega (arith, ap length same) in
    let here = c.way-item.is ∙ ap (λ (items : List (List Pt)). get_or items place way) same in
    one_item_more positions_of_ways ways place way way c.loop-way.envelope c.joined-envelope.result below here refl
    (λ xs h. c.joined-envelope.ensures.envelope xs way h c.of_way.ensures.envelope) c.loop-way.invariant
