use Rattle.std.proofs.Common.{ℤ, pos, ◌-ℤ◌, ◌*ℤ◌, ◌<ℤ◌, ◌≤ℤ◌, refl, subst, arith}
use Rattle.std.proofs.lemmas.Int.{ints}
use mir.Syntax.{w128}
use Rattle.whole_algebra.proofs.Laws.{linear}
use Rattle.whole_algebra.proofs.Computed.{stored, literal, at_most_test, wide, via}
use Rattle.plane_exact.proofs.Sizes.{gap}
use Rattle.plane_exact.proofs.sides.is_between.Goals as goal

pub returns-then-beyond-ge0 : goal.returns-then-beyond-ge0
returns-then-beyond-ge0 c =
    let a = c.args in
    let f = c.requires.fraction in
    let first = stored w128 (via c.beyond.ensures.distance (gap a.x a.w a.low f c.requires.low)) refl in
    let second = stored w128 (via c.beyond-then-beyond-ge0.ensures.distance (gap a.x a.w a.high f c.requires.high)) refl in
    let test = at_most_test second (literal (pos 0)) in
    let passed : pos 0 ≤ℤ wide c.beyond.result = omega (arith, ints) in
    let above : pos 0 ≤ℤ (a.x -ℤ a.low *ℤ a.w) = subst (λ (z : ℤ). pos 0 ≤ℤ z) first.is passed in
    record {
      between = (
        λ t. (omega (arith, linear, above), let h = test.0 t in omega (arith, linear, h)),
        λ h. let k :
            (a.x -ℤ a.high *ℤ a.w) ≤ℤ pos 0 = omega (arith, linear, h.1) in test.1 k,
      );
    }

pub returns-else-beyond-ge0 : goal.returns-else-beyond-ge0
returns-else-beyond-ge0 c =
    let a = c.args in
    let first = stored w128 (via c.beyond.ensures.distance (gap a.x a.w a.low c.requires.fraction c.requires.low)) refl in
    let failed : wide c.beyond.result <ℤ pos 0 = omega (arith, ints) in
    let below : (a.x -ℤ a.low *ℤ a.w) <ℤ pos 0 = subst (λ (z : ℤ). z <ℤ pos 0) first.is failed in
    record { between = (λ t. absurd (omega (arith, ints, t)), λ h. absurd (omega (arith, linear, below, h.0))) }
