use Rattle.std.proofs.Common.{◌≡◌, ◌++◌, length, ap, ◌∙◌, arith}
use Rattle.point_set.specs.declared.figure.Figure.{Figure}
use Rattle.point_set.specs.Edges.{edges_of_areas}
use Rattle.point_set.specs.Validity.{IsAtPlace}
use Rattle.side_laws.proofs.Areas.Hands.{area_clean, area_shaped}
use Rattle.figure_laws.proofs.Lists.Counts.{few_areas}
use Rattle.ring_sides.specs.Rows.{owned_edges}
use Rattle.ring_sides.proofs.Rows.{area_hands, area_read, area_step, few_holes, rings_enough, rings_simple}
use Rattle.ring_sides.proofs.edges.add_areas.Goals as goal

pub overflow_cast-place : goal.overflow_cast-place
overflow_cast-place c =
    let same : c.as_slice-area-items.result.now ≡ c.args.v.now.areas
    = c.as_slice-area-items.ensures.items ∙ ap (λ (f : Figure). f.areas) c.figure.ensures.same in
    omega (arith, few_areas c.args.v.now c.figure.ensures.shaped, ap length same)

pub add_area-requires : goal.add_area-requires
add_area-requires c =
    let f = c.args.v.now in
    let shaped = c.figure.ensures.shaped in
    let valid = c.figure.ensures.valid in
    let place = c.loop-place.place in
    let area = c.area-item.result in
    let at : IsAtPlace f.areas place area
    = area_read c.as_slice-area-items.ensures.items c.figure.ensures.same c.loop-place-test.true c.area-item.is in
    let clean = area_clean f shaped valid place area at in
    record {
      shaped = area_shaped f shaped place area at;
      few = few_holes f shaped place area at;
      enough = rings_enough f valid place area at;
      simple = rings_simple f valid place area at;
      unshared = clean.unshared;
      within = clean.within;
      unlapped = clean.unlapped;
    }

pub loop-place-preserved : goal.loop-place-preserved
loop-place-preserved c =
    let f = c.args.v.now in
    let at : IsAtPlace f.areas c.loop-place.place c.area-item.result
    = area_read c.as_slice-area-items.ensures.items c.figure.ensures.same c.loop-place-test.true c.area-item.is in
    record {
      edges =
          area_step
          (owned_edges c.args.rows.now ++ edges_of_areas 0 f.areas) f.areas c.loop-place.place c.area-item.result at c.loop-place.rows
          c.add_area.new.rows c.in_ok-add_area.ensures.rows c.loop-place.invariant.edges;
      hands = area_hands f c.loop-place.place c.area-item.result at c.loop-place.rows c.add_area.new.rows c.in_ok-add_area.ensures.rows
          c.loop-place.invariant.hands;
    }
