use Rattle.std.proofs.Common.{[], List, subst}
use Rattle.point_set.specs.declared.edge.Edge.{Edge}
use Rattle.ring_sides.specs.Rows.{AddsArea}
use Rattle.geom_valid.proofs.FewPositions.{few_holes}
use Rattle.geom_valid.proofs.GroundRows.{area_rows_are, area_rows_few, area_rows_one, area_rows_sound}
use Rattle.geom_valid.proofs.rows.area_rows.Goals as goal

pub add_area-requires-clause-few : goal.add_area-requires-clause-few
add_area-requires-clause-few c = few_holes c.args.area.now c.requires.sound.clean.shaped c.requires.sound.few

pub returns : goal.returns
returns c =
    let area = c.args.area.now in
    let rows = c.add_area.new.rows in
    let so : AddsArea area 0 [] rows
    = subst (λ (old : List Edge). AddsArea area 0 old rows) c.new-rows.ensures.empty c.in_ok-add_area.ensures.rows in
    record {
      rows = area_rows_are area 0 rows so;
      one_area = area_rows_one area 0 rows so;
      sound = area_rows_sound area c.requires.sound.clean.shaped 0 rows so;
      few = area_rows_few area c.requires.sound.clean.shaped c.requires.sound.few 0 rows so;
    }
