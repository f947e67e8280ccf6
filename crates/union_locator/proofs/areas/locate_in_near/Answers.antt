use Rattle.std.proofs.Common.{◌<◌, List, ℕ, length, get_or, ap, ◌∙◌, subst₂, arith}
use Rattle.im_matrix.specs.declared.Loc.TheVariants.{Interior}
use Rattle.plane_exact.specs.NodePoints.{point_at}
use Rattle.point_set.specs.declared.figure.Figure.{Figure}
use Rattle.union_locator.specs.Areas.{IsInAreaAt}
use Rattle.union_locator.proofs.NearAreas.{some_here, boundary_passed, outside_passed, all_near}
use Rattle.union_locator.proofs.areas.locate_in_near.Given.{Over}
use Rattle.union_locator.proofs.areas.locate_in_near.Goals as goal
use Rattle.union_locator.proofs.areas.locate_in_near.Goals.{In_ok-loc, in-Boundary, in-Exterior}

-- there is a place
below_count : (g : Over) (c : In_ok-loc g) → c.loop-place.place-index < length c.args.places.now
below_count g c = let count = ap length c.as_slice-place-items.ensures.items in omega (arith, count, c.loop-place-test.true)

-- and what was found is where the node lies in the area there
found_there : (g : Over) (c : In_ok-loc g)
    → IsInAreaAt (g.L.AreaLocs.figure c.args.areas.now) (get_or c.args.places.now c.loop-place.place-index 0)
    (point_at c.args.n.now) c.in_ok-loc.field-0
found_there g c =
    subst₂ (λ (z : Figure) (xs : List ℕ). IsInAreaAt z (get_or xs c.loop-place.place-index 0) (point_at c.args.n.now) c.in_ok-loc.field-0)
    (c.in_ok-loc.ensures.figure ∙ c.loop-place.invariant.figure) c.as_slice-place-items.ensures.items c.in_ok-loc.ensures.location

pub returns-in-Interior-clause-location : goal.returns-in-Interior-clause-location
returns-in-Interior-clause-location g c =
    let at = (goal.at.returns-in-Interior-clause-location g c).In_ok-loc in
    some_here (g.L.AreaLocs.figure c.args.areas.now).areas (point_at c.args.n.now) c.args.places.now c.requires.near
    c.loop-place.place-index (below_count g at) (found_there g at) Interior c.in-Interior.is

pub loop-place-preserved : goal.loop-place-preserved
loop-place-preserved g c =
    let areas = (g.L.AreaLocs.figure c.args.areas.now).areas in
    let p = point_at c.args.n.now in
    let places = c.args.places.now in
    let k = c.loop-place.place-index in
    let at = (goal.at.loop-place-preserved g c).In_ok-loc in
    let below = below_count g at in
    let here_is = found_there g at in
    let passed = c.loop-place.invariant.passed in
    record {
      figure = c.in_ok-loc.ensures.figure ∙ c.loop-place.invariant.figure;
      passed = elim c.match-branch-2.branch [
        | in-Boundary w ↦ boundary_passed areas p places c.requires.near k below here_is passed w.in-Boundary.is w.found-is
        | in-Exterior w ↦ outside_passed areas p places c.requires.near k below here_is passed w.in-Exterior.is w.found-is
      ];
    }

pub returns-clause-location : goal.returns-clause-location
returns-clause-location g c =
    let count = ap length c.as_slice-place-items.ensures.items in
    all_near (g.L.AreaLocs.figure c.args.areas.now).areas (point_at c.args.n.now) c.args.places.now c.requires.near c.loop-place.place-index
    c.loop-place.found (omega (arith, count, c.loop-place-test.false)) c.loop-place.invariant.passed
