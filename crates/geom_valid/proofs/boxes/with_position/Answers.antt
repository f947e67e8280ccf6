use Rattle.std.proofs.Common.{arith}
use Rattle.std.proofs.lemmas.Int.{ints, clamps}
use Rattle.geom_valid.proofs.boxes.with_position.Goals as goal

pub returns-clause-kept : goal.returns-clause-kept
returns-clause-kept c = record {
  left = omega (arith, ints, clamps);
  right = omega (arith, ints, clamps);
  bottom = omega (arith, ints, clamps);
  top = omega (arith, ints, clamps);
}

pub returns-clause-held : goal.returns-clause-held
returns-clause-held c = record {
  left = omega (arith, ints, clamps);
  right = omega (arith, ints, clamps);
  bottom = omega (arith, ints, clamps);
  top = omega (arith, ints, clamps);
}

pub returns-clause-least : goal.returns-clause-least
returns-clause-least c = λ outer within held. record {
  left = omega (arith, ints, clamps, within.left, held.left);
  right = omega (arith, ints, clamps, within.right, held.right);
  bottom = omega (arith, ints, clamps, within.bottom, held.bottom);
  top = omega (arith, ints, clamps, within.top, held.top);
}
