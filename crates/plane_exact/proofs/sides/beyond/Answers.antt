use Rattle.std.proofs.Common.{◌-ℤ◌, ◌*ℤ◌, refl, ◌∙◌}
use mir.Syntax.{w64, w128}
use Rattle.whole_algebra.proofs.Computed.{Computes, read, product, difference, stored, fits, bounded, wide}
use Rattle.plane_exact.specs.Limits.{largest, longest}
use Rattle.plane_exact.proofs.Sizes.{numerator_size, weight_size}
use Rattle.plane_exact.proofs.sides.beyond.Goals as goal

scaled : (c : goal.After-from) → Computes (wide c.from.result *ℤ wide c.args.w) (c.args.coordinate *ℤ c.args.w) largest
scaled c =
    let k = read w64 c.args.coordinate c.requires.limit refl in
    product (stored w128 (record { is = c.from.ensures ∙ k.is; small = k.small }) refl)
    (read w128 c.args.w (weight_size c.args.x c.args.w c.requires.fraction) refl)

whole :
    (c : goal.After-from)
    → Computes (wide c.args.x -ℤ wide (wide c.from.result *ℤ wide c.args.w)) (c.args.x -ℤ c.args.coordinate *ℤ c.args.w) longest
whole c = difference (read w128 c.args.x (numerator_size c.args.x c.args.w c.requires.fraction) refl) (stored w128 (scaled c) refl)

pub overflow_mul-result : goal.overflow_mul-result
overflow_mul-result c = fits w128 (scaled c) refl

pub overflow_sub-result : goal.overflow_sub-result
overflow_sub-result c = fits w128 (whole c) refl

pub returns : goal.returns
returns c = record { distance = (stored w128 (whole c) refl).is; size = bounded (stored w128 (whole c) refl) refl }
