use Rattle.ring_laws.proofs.laws.law_germ_is_one_location.Goals as goal
use Rattle.ring_laws.proofs.Germs.Areas.{germ_exists, germ_one, pair_germ_one}

pub returns : goal.returns
returns c = record {
  some = λ area shaped v d. let g = germ_exists area shaped v d in (g.germ, g.is);
  one = germ_one;
  one_pair = pair_germ_one;
}
