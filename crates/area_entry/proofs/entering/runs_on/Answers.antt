use Rattle.std.proofs.Common.{rules}
use Rattle.plane_exact.specs.NodePoints.{point_at}
use Rattle.plane_exact.specs.Orders.{direction_of}
use Rattle.germ_laws.proofs.Rays.Ways.{way_cone}
use Rattle.valid_laws.proofs.Hands.AfterWay.{free_ahead}
use Rattle.area_entry.proofs.Entries.{no_way_on, by_germ}
use Rattle.area_entry.proofs.Bends.{not_so}
use Rattle.area_entry.proofs.entering.runs_on.Goals as goal

pub returns-then-is_at : goal.returns-then-is_at
returns-then-is_at c = record {
  runs = λ area clean are_rows unshared there. (λ t. cc, λ r. absurd (no_way_on (c.is_at.ensures.at.0 c.if-is_at.true) r));
}

pub returns : goal.returns
returns c = record {
  runs = λ area clean are_rows unshared there.
      let e = c.args.edge.now.seg in
      let v = point_at c.args.n.now in
      let d = direction_of c.way_of.result in
      let not_end = not_so c.is_at.result c.is_at.ensures.at c.if-is_at.false in
      let ahead = way_cone e.a e.b v c.requires.on not_end d c.way_of.ensures.across c.way_of.ensures.above in
      let free = free_ahead area e unshared v c.requires.on d ahead in
      by_germ area clean e v c.requires.on d ahead c.args.part c.in_ok-part_along.field-0
      (c.in_ok-part_along.ensures.germ area clean are_rows there free) c.eq.result (search rules);
}
