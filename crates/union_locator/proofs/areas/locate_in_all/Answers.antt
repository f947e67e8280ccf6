use Rattle.std.proofs.Common.{◌<◌, length, sym, ◌∙◌, subst, arith}
use Rattle.plane_exact.specs.NodePoints.{point_at}
use Rattle.point_set.specs.declared.figure.Figure.{Figure}
use Rattle.figure_laws.proofs.Lists.Counts.{few_areas}
use Rattle.union_locator.specs.Areas.{IsInAreaAt}
use Rattle.union_locator.proofs.SingleAreas.{inside_here, boundary_here, outside_here, all_passed}
use Rattle.union_locator.proofs.areas.locate_in_all.Given.{Over}
use Rattle.union_locator.proofs.areas.locate_in_all.Goals as goal
use Rattle.union_locator.proofs.areas.locate_in_all.Goals.{In_ok-loc, in-Boundary, in-Exterior}

pub overflow_cast-place : goal.overflow_cast-place
overflow_cast-place g c =
    let count = c.len-place-end.ensures.length in
    omega (arith, count, few_areas c.args.figure.now c.requires.shaped, c.loop-place-test.true)

-- there is an area at the place
below_end : (g : Over) (c : In_ok-loc g) → c.loop-place.place < length c.args.figure.now.areas
below_end g c = let count = c.len-place-end.ensures.length in omega (arith, count, c.loop-place-test.true)

-- and what was found is where the node lies in it
found_here : (g : Over) (c : In_ok-loc g) → IsInAreaAt c.args.figure.now c.loop-place.place (point_at c.args.n.now) c.in_ok-loc.field-0
found_here g c =
    subst (λ (z : Figure). IsInAreaAt z c.loop-place.place (point_at c.args.n.now) c.in_ok-loc.field-0)
    (c.in_ok-loc.ensures.figure ∙ c.loop-place.invariant.figure) c.in_ok-loc.ensures.location

pub returns-in-Interior-clause-location : goal.returns-in-Interior-clause-location
returns-in-Interior-clause-location g c =
    let at = (goal.at.returns-in-Interior-clause-location g c).In_ok-loc in
    inside_here c.args.figure.now.areas (point_at c.args.n.now) c.loop-place.place (below_end g at) c.in_ok-loc.field-0 (found_here g at)
    c.in-Interior.is

pub loop-place-preserved : goal.loop-place-preserved
loop-place-preserved g c =
    let f = c.args.figure.now in
    let p = point_at c.args.n.now in
    let k = c.loop-place.place in
    let here = c.in_ok-loc.field-0 in
    let at = (goal.at.loop-place-preserved g c).In_ok-loc in
    let below = below_end g at in
    let own = found_here g at in
    let old = c.loop-place.loc in
    let outside = c.loop-place.invariant.outside in
    let passed = c.loop-place.invariant.passed in
    record {
      figure = c.in_ok-loc.ensures.figure ∙ c.loop-place.invariant.figure;
      outside =
          elim c.match-branch-2.branch [
            | in-Boundary w ↦ λ e. (let both = sym w.loc-is ∙ e in cc)
            | in-Exterior w ↦ λ e. outside
                (sym w.loc-is ∙ e)
          ];
      passed = elim c.match-branch-2.branch [
        | in-Boundary w ↦ boundary_here f.areas p k below here own old outside passed w.in-Boundary.is w.loc-is
        | in-Exterior w ↦ outside_here f.areas p k below here own old passed w.in-Exterior.is w.loc-is
      ];
    }

pub returns-clause-location : goal.returns-clause-location
returns-clause-location g c =
    let count = c.len-place-end.ensures.length in
    all_passed c.args.figure.now.areas (point_at c.args.n.now) c.loop-place.place c.loop-place.loc
    (omega (arith, count, c.loop-place-test.false))
    c.loop-place.invariant.passed
