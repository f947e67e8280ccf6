use Rattle.std.proofs.Common.{◌<◌, length, ap, ◌∙◌, arith}
use Rattle.point_set.specs.declared.figure.Figure.{Figure}
use Rattle.figure_laws.proofs.Lists.Counts.{few_areas}
use Rattle.union_locator.proofs.AreaEdges.{area_more}
use Rattle.union_locator.proofs.areas.indexes_of.Goals as goal

pub overflow_cast-place : goal.overflow_cast-place
overflow_cast-place c =
    let count = c.len-count.ensures.length ∙ ap (λ (f : Figure). length f.areas) c.figure.ensures.same in
    omega (arith, count, few_areas c.args.v.now c.figure.ensures.shaped, c.loop-place-test.true)

pub loop-place-preserved : goal.loop-place-preserved
loop-place-preserved c =
    let areas = c.args.v.now.areas in
    let k = c.loop-place.place in
    let count = c.len-count.ensures.length ∙ ap (λ (f : Figure). length f.areas) c.figure.ensures.same in
    let below : k < length areas = omega (arith, count, c.loop-place-test.true) in
    c.in_ok-push.ensures.ok
    ∙ area_more areas k c.loop-place.indexes c.in_ok-build.field-0 below c.in_ok-build.ensures.edges c.loop-place.invariant
