use Rattle.std.proofs.Common.{◌<◌, List, length, ap, refl, sym, subst, arith}
use Rattle.std.specs.List.{All}
use Rattle.std.proofs.lemmas.List.Elements.{All-nil}
use Rattle.plane_exact.specs.NodePoints.{point_at}
use Rattle.figure_laws.proofs.Lists.Places.{all_at, read_at}
use Rattle.fan_order.specs.declared.section.Section.{Section}
use Rattle.fan_order.specs.Rays.{IsShort}
use Rattle.area_entry.specs.RowSections.{IsRowSound}
use Rattle.area_entry.proofs.Loops.{item_of_all, item_read}
use Rattle.area_entry.proofs.PlacedRows.{AreSectionsSoFar, near_within, none_so_far, place_more, all_places}
use Rattle.area_entry.proofs.sections.sections_of_places.Goals as goal

pub loop-place-init : goal.loop-place-init
loop-place-init c =
    let v = point_at c.args.n.now in
    let rows = c.args.rows.now in
    let places = c.args.places.now in
    let empty = sym c.new-sections.ensures.empty in (
      subst (λ (xs : List Section). AreSectionsSoFar v rows places 0 xs) empty (none_so_far v rows places),
      subst (λ (xs : List Section). All (λ s. IsShort s.dir) xs) empty (All-nil (λ (s : Section). IsShort s.dir)),
    )

pub at-requires : goal.at-requires
at-requires c =
    record {
      within =
          item_of_all c.args.places.now c.as_slice-place-items.ensures.items c.loop-place.place-index _ c.loop-place-test.true
          (λ place. place < length c.args.rows.now) (near_within _ c.args.rows.now c.args.places.now c.requires.near);
    }

pub add_row-requires : goal.add_row-requires
add_row-requires c =
    let rows = c.args.rows.now in
    let below =
    item_of_all c.args.places.now c.as_slice-place-items.ensures.items c.loop-place.place-index _ c.loop-place-test.true
    (λ place. place < length rows) (near_within _ rows c.args.places.now c.requires.near) in
    let there = read_at rows rows _ c.at.result.now refl below c.at.ensures.item in
    record { sound = all_at IsRowSound rows _ c.at.result.now c.requires.sound there }

pub loop-place-preserved : goal.loop-place-preserved
loop-place-preserved c =
    let near = c.requires.near in
    let v = point_at c.args.n.now in
    let rows = c.args.rows.now in
    let places = c.args.places.now in
    let items = c.as_slice-place-items.ensures.items in
    let k = c.loop-place.place-index in
    let there =
    item_of_all places items k _ c.loop-place-test.true (λ place. place < length rows)
    (near_within _ rows places near) in
    let long = ap length items in (
      place_more v rows places near k c.loop-place.sections c.add_row.new.out c.loop-place.invariant.0
          (omega (arith, long, c.loop-place-test.true)) _ (item_read places items k _ c.loop-place-test.true 0) c.at.result.now
          (read_at rows rows _ c.at.result.now refl there c.at.ensures.item) c.in_ok-add_row.ensures.sections,
      c.in_ok-add_row.ensures.short c.loop-place.invariant.1,
    )

pub returns-clause-sections : goal.returns-clause-sections
returns-clause-sections c =
    let long = ap length c.as_slice-place-items.ensures.items in
    all_places (point_at c.args.n.now) c.args.rows.now c.args.places.now c.requires.near c.loop-place.place-index c.loop-place.sections
    (omega (arith, long, c.loop-place-test.false)) c.loop-place.invariant.0

pub returns-clause-short : goal.returns-clause-short
returns-clause-short c = c.loop-place.invariant.1
