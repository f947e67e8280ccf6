-- The whole numbers round a fraction, from a quotient and its remainder.
use Rattle.std.proofs.Common.{◌≡◌, ◌<◌, ℤ, pos, ◌+ℤ◌, ◌-ℤ◌, ◌*ℤ◌, neg_ℤ, ◌<ℤ◌, ◌≤ℤ◌, FitsSigned, unsigned_abs, arith}
use Rattle.std.proofs.lemmas.Int.{ints, quot-rem, rem_below, quot_is, quot_fits, rem_is}
use Rattle.std.specs.Int.RustNames.{int_div, int_rem}
use mir.Syntax.{w128}
use Rattle.whole_algebra.proofs.Computed.{Computes, wide}
use Rattle.whole_algebra.proofs.Laws.{linear, +ℤ-*ℤ, -ℤ-*ℤ, one-*ℤ}
use Rattle.whole_algebra.proofs.Signs.{cancel_<ℤ_right}
use Rattle.plane_exact.specs.Limits.{limit}
use Rattle.plane_exact.specs.Nodes.{IsFraction, IsRange}

module _ (x w q r : ℤ) (hw : pos 0 <ℤ w) (division : q *ℤ w +ℤ r ≡ x) where
  pub range_below : r <ℤ pos 0 → neg_ℤ w <ℤ r → IsRange x w (q -ℤ pos 1) q
  range_below h k = record {
    below = omega (arith, linear, division, k, -ℤ-*ℤ q (pos 1) w, one-*ℤ w);
    above = omega (arith, linear, division, h);
    lowest = omega (arith, linear, division, h, +ℤ-*ℤ (q -ℤ pos 1) (pos 1) w, -ℤ-*ℤ q (pos 1) w, one-*ℤ w);
    highest = omega (arith, linear, division, k, -ℤ-*ℤ q (pos 1) w, one-*ℤ w);
  }

  pub range_exact : r ≡ pos 0 → IsRange x w q q
  range_exact h = record {
    below = omega (arith, linear, division, h);
    above = omega (arith, linear, division, h);
    lowest = omega (arith, linear, division, h, hw, +ℤ-*ℤ q (pos 1) w, one-*ℤ w);
    highest = omega (arith, linear, division, h, hw, -ℤ-*ℤ q (pos 1) w, one-*ℤ w);
  }

  pub range_above : pos 0 <ℤ r → r <ℤ w → IsRange x w q (q +ℤ pos 1)
  range_above h k = record {
    below = omega (arith, linear, division, h);
    above = omega (arith, linear, division, k, +ℤ-*ℤ q (pos 1) w, one-*ℤ w);
    lowest = omega (arith, linear, division, k, +ℤ-*ℤ q (pos 1) w, one-*ℤ w);
    highest = omega (arith, linear, division, h, -ℤ-*ℤ (q +ℤ pos 1) (pos 1) w, +ℤ-*ℤ q (pos 1) w, one-*ℤ w);
  }

-- ---- what the code's `x / w` and `x % w` give
module _ (x w : ℤ) (f : IsFraction x w) (g : FitsSigned w128 x) (h : FitsSigned w128 w) where
  some : 0 < unsigned_abs w
  some = omega (arith, ints, f.heavy)

  pub rest_size : (neg_ℤ w <ℤ int_rem x w) × (int_rem x w <ℤ w)
  rest_size = (omega (arith, ints, f.heavy, rem_below x w some), omega (arith, ints, f.heavy, rem_below x w some))

  -- the quotient of a fraction within the limit is within the limit
  quotient_high : int_div x w <ℤ pos 1048576
  quotient_high =
      let above : (pos limit *ℤ w +ℤ w) ≤ℤ (pos 1048576 *ℤ w) = omega (arith, ints) in
      cancel_<ℤ_right w (int_div x w) (pos 1048576) f.heavy (omega (arith, linear, quot-rem x w, rest_size.0, f.high, above))

  quotient_low : neg_ℤ (pos 1048576) <ℤ int_div x w
  quotient_low =
      let below : (neg_ℤ (pos 1048576) *ℤ w) ≤ℤ (neg_ℤ (pos limit *ℤ w) -ℤ w) = omega (arith, ints) in
      cancel_<ℤ_right w (neg_ℤ (pos 1048576)) (int_div x w) f.heavy (omega (arith, linear, quot-rem x w, rest_size.1, f.low, below))

  pub quotient : Computes (wide (int_div (wide x) (wide w))) (int_div x w) limit
  quotient = record { is = quot_is w128 x w g h (quot_fits w128 x w g f.heavy); small = omega (arith, ints, quotient_high, quotient_low) }

  pub rest : wide (int_rem (wide x) (wide w)) ≡ int_rem x w
  rest = rem_is w128 x w g h
