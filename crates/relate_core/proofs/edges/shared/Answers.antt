use Rattle.std.proofs.Common.{arith}
use Rattle.std.proofs.lemmas.Int.{ints, clamps}
use Rattle.relate_core.proofs.Shared.{shared_by_sides}
use Rattle.relate_core.proofs.edges.shared.Goals as goal

pub returns : goal.returns
returns c =
    let both =
    shared_by_sides c.args.u.now c.args.v.now _ (omega (arith, ints, clamps)) (omega (arith, ints, clamps)) (omega (arith, ints, clamps))
    (omega (arith, ints, clamps)) in
    record { holds = λ p. (both p).0; only = λ p. (both p).1 }
