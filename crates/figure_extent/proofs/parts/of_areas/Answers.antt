use Rattle.std.proofs.Common.{◌∙◌, ◌<◌, ◌+◌, ap, length, get_or, drop, List, arith}
use Rattle.point_set.specs.declared.figure.Area.{Area}
use Rattle.point_set.specs.Location.{rings_of}
use Rattle.point_set.specs.Nodes.{positions_of_ways, rings_of_areas}
use Rattle.figure_extent.proofs.Lines.{positions_of_areas, ways_append}
use Rattle.figure_extent.proofs.SoFar.{one_item_more}
use Rattle.figure_extent.proofs.parts.of_areas.Goals as goal

pub loop-area-preserved : goal.loop-area-preserved
loop-area-preserved c =
    let areas = c.args.areas.now in
    let place = c.loop-area.area-index in
    let area = c.area-item.result in
    let own = positions_of_ways (rings_of area) in
    let same = c.as_slice-area-items.ensures.items in
    let below : place < length areas = omega (arith, ap length same) in
    let here = c.area-item.is ∙ ap (λ (items : List Area). get_or items place area) same in
    one_item_more positions_of_areas areas place area own c.loop-area.envelope c.joined-envelope.result below here
    (ways_append (rings_of area) (rings_of_areas (drop (place + 1) areas)))
    (λ xs h. c.joined-envelope.ensures.envelope xs own h c.of_area.ensures.envelope) c.loop-area.invariant
