use Rattle.std.proofs.Common.{◌+ℤ◌, ◌*ℤ◌, refl}
use mir.Syntax.{w128}
use Rattle.whole_algebra.proofs.Computed.{Computes, sum, product, stored, fits, wide}
use Rattle.plane_exact.specs.Limits.{limit, widest}
use Rattle.seg_cross.proofs.Means.{widened}
use Rattle.seg_cross.proofs.crossing.mean.Goals as goal

whole :
    (c : goal.After-from-4)
    → Computes (wide (wide c.from.result *ℤ wide c.from-2.result) +ℤ wide (wide c.from-3.result *ℤ wide c.from-4.result))
    (c.args.first *ℤ c.args.a +ℤ c.args.second *ℤ c.args.b) 18446691297201750000
whole c =
    let first = widened _ c.args.first widest c.from.ensures c.requires.first refl refl in
    let a = widened _ c.args.a limit c.from-2.ensures c.requires.a refl refl in
    let second = widened _ c.args.second widest c.from-3.ensures c.requires.second refl refl in
    let b = widened _ c.args.b limit c.from-4.ensures c.requires.b refl refl in
    sum (stored w128 (product first a) refl) (stored w128 (product second b) refl)

pub overflow_add-result : goal.overflow_add-result
overflow_add-result c = fits w128 (whole c) refl

pub returns : goal.returns
returns c = record { sum = (stored w128 (whole c) refl).is }
