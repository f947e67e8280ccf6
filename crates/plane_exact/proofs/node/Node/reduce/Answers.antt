use Rattle.std.proofs.Common.{◌≡◌, ℤ, pos, ◌*ℤ◌, ◌<ℤ◌, FitsSigned, unsigned_abs, sym, ◌∙◌, subst₂, to_z-of_z, arith, rules}
use Rattle.std.specs.Int.{◌∣◌}
use Rattle.std.specs.Int.RustNames.{int_div}
use Rattle.std.proofs.lemmas.Int.{ints}
use mir.Syntax.{w128}
use Rattle.plane_exact.proofs.Reduced.{divided, crossed, IsFraction-divided, IsReduced-whole, IsReduced-divided}
use Rattle.whole_algebra.proofs.Computed.{wide}
use Rattle.plane_exact.specs.Nodes.{IsFraction}
use Rattle.plane_exact.proofs.node.Node.reduce.Goals as goal

pub invariant_of-result : goal.invariant_of-result
invariant_of-result c =
    let same = λ (z : ℤ) (f : FitsSigned w128 z). sym (to_z-of_z f) in
    record {
      across = subst₂ IsFraction (same c.args.x c.ranges.x) (same c.args.w c.ranges.w) c.requires.across;
      above = subst₂ IsFraction (same c.args.y c.ranges.y) (same c.args.w c.ranges.w) c.requires.above;
      reduced = IsReduced-whole _ _ _ (omega (arith, ints));
    }

-- a common divisor times each of the three quotients, as the code has them
quotients :
    {x y w d : ℤ} → FitsSigned w128 x → FitsSigned w128 y → FitsSigned w128 w → pos 0 <ℤ d → unsigned_abs d ∣ unsigned_abs (wide x)
    → unsigned_abs d ∣ unsigned_abs (wide y) → unsigned_abs d ∣ unsigned_abs (wide w) → FitsSigned w128 d
    → (wide (int_div (wide x) (wide d)) *ℤ d ≡ x) × (wide (int_div (wide y) (wide d)) *ℤ d ≡ y)
    × (wide (int_div (wide w) (wide d)) *ℤ d ≡ w)
quotients {x} {y} {w} {d} fx fy fw some hx hy hw f =
    (divided x d fx f some hx, divided y d fy f some hy, divided w d fw f some hw)

pub invariant_of-result-2 : goal.invariant_of-result-2
invariant_of-result-2 c =
    let k = c.common_divisor-divisor.ensures in
    let e = quotients c.ranges.x c.ranges.y c.ranges.w k.positive k.x k.y k.w (search rules) in
    record {
      across = IsFraction-divided c.args.x c.args.w _ _ _ k.positive e.0 e.2 c.requires.across;
      above = IsFraction-divided c.args.y c.args.w _ _ _ k.positive e.1 e.2 c.requires.above;
      reduced =
          IsReduced-divided _ _ _ _ _ _ _ k.positive (e.0 ∙ sym (to_z-of_z c.ranges.x)) (e.1 ∙ sym (to_z-of_z c.ranges.y))
          (e.2 ∙ sym (to_z-of_z c.ranges.w)) k.greatest;
    }

pub returns : goal.returns
returns c =
    let k = c.common_divisor-divisor.ensures in
    let e = quotients c.ranges.x c.ranges.y c.ranges.w k.positive k.x k.y k.w (search rules) in
    record { same = record { across = crossed c.args.x c.args.w _ _ _ e.0 e.2; above = crossed c.args.y c.args.w _ _ _ e.1 e.2 } }
