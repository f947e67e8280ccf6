use Rattle.std.proofs.Common.{length, ap, arith}
use Rattle.figure_laws.proofs.Lists.Places.{read_at}
use Rattle.geom_valid.proofs.WiderBoxes.{rings_first, rings_last, rings_next}
use Rattle.geom_valid.proofs.boxes.area_box.Goals as goal

pub loop-hole-init : goal.loop-hole-init
loop-hole-init c = rings_first c.ring_box-around.result c.args.area.now c.ring_box-around.ensures.round

pub loop-hole-preserved : goal.loop-hole-preserved
loop-hole-preserved c =
    let area = c.args.area.now in
    let at = read_at c.as_slice-hole-items.result.now area.holes c.loop-hole.hole-index c.hole-item.result
    c.as_slice-hole-items.ensures.items c.loop-hole-test.true c.hole-item.is in
    rings_next c.loop-hole.around c.widened-around.result area c.loop-hole.hole-index c.hole-item.result c.loop-hole.invariant at
    c.widened-around.ensures.kept c.widened-around.ensures.round

pub returns : goal.returns
returns c =
    let past = c.loop-hole-test.false in
    let count = ap length c.as_slice-hole-items.ensures.items in
    record {
      round = rings_last c.loop-hole.around c.args.area.now c.loop-hole.hole-index (omega (arith, past, count)) c.loop-hole.invariant;
    }
