use Rattle.std.proofs.Common.{refl, arith}
use Rattle.std.proofs.lemmas.Int.{ints}
use Rattle.plane_exact.proofs.Reduced.{IsFraction-whole, IsReduced-whole}
use Rattle.plane_exact.proofs.node.Node.at_point.Goals as goal

pub invariant_of-result : goal.invariant_of-result
invariant_of-result c = record {
  across = IsFraction-whole _ (omega (arith, ints)) (omega (arith, ints));
  above = IsFraction-whole _ (omega (arith, ints)) (omega (arith, ints));
  reduced = IsReduced-whole _ _ _ refl;
}
