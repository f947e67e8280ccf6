use Rattle.std.proofs.Common.{arith}
use Rattle.std.proofs.lemmas.Int.{ints}
use Rattle.figure_extent.proofs.Boxes.{one_position}
use Rattle.figure_extent.proofs.envelopes.at_position.Goals as goal

pub returns : goal.returns
returns c = record {
  envelope = (λ e. cc, one_position c.args.p _ (omega (arith, ints)) (omega (arith, ints)) (omega (arith, ints)) (omega (arith, ints)));
}
