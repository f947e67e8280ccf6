use Rattle.plane_laws.proofs.laws.law_same_point_is_equivalence.Goals as goal
use Rattle.plane_laws.proofs.Points.Same.{same_refl, same_sym, same_trans}

pub returns : goal.returns
returns c = record {
  reflexive = same_refl;
  symmetric = λ p q h. same_sym h;
  transitive = λ p q r h k. same_trans h k;
}
