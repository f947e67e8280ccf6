use Rattle.im_matrix.proofs.Laws.{same_cells}
use Rattle.im_matrix.specs.Cells.{dimension_at}
use Rattle.figure_laws.proofs.laws.law_a_pair_has_one_matrix.Goals as goal
use Rattle.figure_laws.proofs.Sets.Dimensions.{one_dimension}
use Rattle.point_set.specs.Relation.{IsInCell}

pub returns : goal.returns
returns c = record {
  cell = λ a b rule c. one_dimension (IsInCell a b rule c);
  matrix = λ a b rule m n h k. same_cells m n (λ c. one_dimension (IsInCell a b rule c) (dimension_at m c) (dimension_at n c) (h c) (k c));
}
