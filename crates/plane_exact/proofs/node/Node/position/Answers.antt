use Rattle.std.proofs.Common.{ap, arith}
use Rattle.std.proofs.lemmas.Int.{ints}
use Rattle.plane_laws.specs.Plane.{Point}
use Rattle.plane_laws.proofs.Points.Numbers.{same_numbers}
use Rattle.plane_exact.proofs.node.Node.position.Goals as goal

pub returns-then-self-eq1-clause-point : goal.returns-then-self-eq1-clause-point
returns-then-self-eq1-clause-point c = same_numbers _ _ (omega (arith, ints)) (omega (arith, ints)) (omega (arith, ints))

pub returns-else-self-eq1-clause-none : goal.returns-else-self-eq1-clause-none
returns-else-self-eq1-clause-none c = λ p e. let h = ap (λ (q : Point). q.w) e in omega (arith, ints, h)
