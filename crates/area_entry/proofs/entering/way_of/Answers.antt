use Rattle.std.proofs.Common.{sym, subst₂}
use Rattle.plane_exact.specs.Directions.{IsWay}
use Rattle.fan_order.proofs.Laws.{across_is, above_is, IsWay-between}
use Rattle.area_entry.proofs.entering.way_of.Goals as goal

pub invariant_of-result : goal.invariant_of-result
invariant_of-result c =
    let a = c.args.edge.now.seg.a in
    let b = c.args.edge.now.seg.b in
    let sound = c.requires.sound in
    record {
      way =
          subst₂ IsWay (sym (across_is a b sound.start sound.end)) (sym (above_is a b sound.start sound.end))
          (IsWay-between a b sound.start sound.end sound.moves);
    }
