use Rattle.ring_laws.proofs.laws.law_inside_flips.Goals as goal
use Rattle.ring_laws.proofs.Parity.Ring.{inside_flips}

pub returns : goal.returns
returns c = record {
  flips = λ ring closed before e after is p q m left right between on miss.
      inside_flips ring closed before e after is p q m left right between on (record { off = miss });
}
