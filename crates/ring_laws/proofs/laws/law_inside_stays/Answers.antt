use Rattle.ring_laws.proofs.laws.law_inside_stays.Goals as goal
use Rattle.ring_laws.proofs.Parity.Ring.{odd_stays, inside_stays}

pub returns : goal.returns
returns c = record {
  parity = λ ring closed p q miss. odd_stays p q ring closed (record { off = miss });
  inside = λ ring closed p q miss. inside_stays p q ring closed (record { off = miss });
}
