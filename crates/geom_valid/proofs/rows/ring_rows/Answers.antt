use Rattle.geom_valid.proofs.GroundRows.{ring_rows_are, ring_rows_few, ring_rows_one, ring_rows_sound}
use Rattle.std.proofs.Common.{[], List, subst}
use Rattle.point_set.specs.declared.edge.Edge.{Edge}
use Rattle.point_set.specs.declared.edge.Owner.TheVariants.{Ring}
use Rattle.ring_sides.specs.Rows.{AddsRing}
use Rattle.geom_valid.proofs.rows.ring_rows.Goals as goal

pub returns : goal.returns
returns c =
    let ring = c.args.ring.now in
    let rows = c.add_ring.new.rows in
    let so : AddsRing ring (Ring 0 0) [] rows
    = subst (λ (old : List Edge). AddsRing ring (Ring 0 0) old rows) c.new-rows.ensures.empty c.in_ok-add_ring.ensures.rows in
    record {
      rows = ring_rows_are ring (record { shaped = c.requires.shaped; simple = c.requires.simple }) (Ring 0 0) rows so;
      one_area = ring_rows_one ring 0 0 rows so;
      sound = ring_rows_sound ring c.requires.shaped (Ring 0 0) rows so;
      few = ring_rows_few ring c.requires.shaped c.requires.few (Ring 0 0) rows so;
    }
