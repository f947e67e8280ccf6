-- What is seen of two figures at their nodes decides their matrix.
use Rattle.std.specs.Prelude.{◌≡◌}
use Rattle.im_matrix.specs.declared.Matrix.{Matrix}
use Rattle.point_set.specs.declared.figure.Figure.{Figure}
use Rattle.point_set.specs.declared.rule.Rule.{Rule}
use Rattle.point_set.specs.Relation.{IsMatrixOf}
use Rattle.point_set.specs.Samples.{IsSampleMatrix}

-- There is a matrix that is that of the samples at all nodes of the two figures and that of their two point sets; and no other
-- matrix is the one or the other. So a matrix is that of the samples exactly where it is that of the point sets.
pub record AreDecidedBySamples (a b : Figure) (rule : Rule) : Type 0 where
  pub matrix : Matrix
  pub of_samples : IsSampleMatrix a b rule matrix
  pub of_points : IsMatrixOf a b rule matrix
  pub only_of_samples : (m : Matrix) → IsSampleMatrix a b rule m → m ≡ matrix
  pub only_of_points : (m : Matrix) → IsMatrixOf a b rule m → m ≡ matrix
