use Rattle.side_laws.proofs.laws.law_inside_lies_on_one_hand.Goals as goal
use Rattle.side_laws.proofs.Rings.Hand.{some_inside_hand}

pub returns : goal.returns
returns c = record {
  hand = some_inside_hand;
}
