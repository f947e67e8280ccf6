use Rattle.side_laws.proofs.laws.law_area_lies_on_the_hands_of_its_rings.Goals as goal
use Rattle.side_laws.proofs.Areas.Hands.{area_clean, shell_hand, hole_hand}

pub returns : goal.returns
returns c = record {
  shell = λ f shaped valid place area is. shell_hand area (area_clean f shaped valid place area is);
  hole = λ f shaped valid place area is. hole_hand area (area_clean f shaped valid place area is);
}
