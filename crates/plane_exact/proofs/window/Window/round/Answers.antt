use Rattle.std.proofs.Common.{◌≡◌, ℤ, subst₂, arith}
use Rattle.std.proofs.lemmas.Int.{ints}
use Rattle.plane_exact.specs.Nodes.{IsFraction, IsRange}
use Rattle.plane_exact.specs.NodePoints.{point_at}
use Rattle.plane_exact.proofs.Boxes.{least_of_point}
use Rattle.whole_algebra.proofs.Computed.{narrow, wide}
use Rattle.plane_exact.proofs.Sizes.{plain_numerator, plain_weight}
use Rattle.plane_exact.proofs.window.Window.round.Goals as goal

as_stored :
    (x w low high : ℤ) → IsFraction x w → low ≡ narrow low → high ≡ narrow high → IsRange (wide x) (wide w) low high
    → IsRange x w (narrow low) (narrow high)
as_stored x w low high f el eh h =
    subst₂ (IsRange x w) el eh (subst₂ (λ (a b : ℤ). IsRange a b low high) (plain_numerator x w f) (plain_weight x w f) h)

pub returns : goal.returns
returns c =
    let n = c.args.n.now in
    record {
      least = least_of_point _ (point_at n)
          (as_stored n.x n.w _ _ n.across (omega (arith, ints)) (omega (arith, ints)) c.whole_range-low_x.ensures.range)
          (as_stored n.y n.w _ _ n.above (omega (arith, ints)) (omega (arith, ints)) c.whole_range-low_y.ensures.range);
    }
