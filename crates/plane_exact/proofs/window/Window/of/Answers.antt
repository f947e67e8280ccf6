use Rattle.std.proofs.Common.{arith}
use Rattle.std.proofs.lemmas.Int.{ints, clamps}
use Rattle.plane_exact.proofs.Boxes.{least_of_ends}
use Rattle.plane_exact.proofs.window.Window.of.Goals as goal

pub returns-clause-least : goal.returns-clause-least
returns-clause-least c =
    least_of_ends _ c.args.s.a c.args.s.b (omega (arith, ints, clamps)) (omega (arith, ints, clamps)) (omega (arith, ints, clamps))
    (omega (arith, ints, clamps))
