-- What the answer to a query says of two figures.
use Rattle.std.specs.Prelude.{◌≡◌}
use Rattle.im_matrix.specs.declared.Matrix.{Matrix}
use Rattle.point_set.specs.declared.figure.Figure.{Figure}
use Rattle.point_set.specs.declared.rule.Rule.{Rule}
use Rattle.point_set.specs.Relation.{IsMatrixOf}
use Rattle.point_set.specs.Samples.{IsSampleMatrix}
use Rattle.point_set.specs.Shape.{dimension_of}
use Rattle.topo_pred.specs.declared.Answer.{Answer}
use Rattle.topo_pred.specs.declared.Answer.TheVariants.{Im}
use Rattle.topo_pred.specs.declared.Query.{Query}
use Rattle.topo_pred.specs.Values.{value_of}

-- The answer is the query's value on the sample matrix of two figures.
abbrev pub IsValueOnSamples : Figure → Figure → Rule → Query → Answer → Type 0
IsValueOnSamples a b rule query answer =
    (m : Matrix) → IsSampleMatrix a b rule m → answer ≡ value_of query (dimension_of a) (dimension_of b) m

-- The answer is the sample matrix of two figures.
pub record IsSampleMatrixItself (a b : Figure) (rule : Rule) (answer : Answer) : Type 0 where
  pub m : Matrix
  pub of_samples : IsSampleMatrix a b rule m
  pub answer_is : answer ≡ Im m

-- The answer is the query's value on the matrix of two figures: that whose cells have the dimensions of the sets of all points of
-- the plane that lie in them.
pub record IsAnswerTo (query : Query) (a b : Figure) (rule : Rule) (answer : Answer) : Type 0 where
  pub m : Matrix
  pub of_points : IsMatrixOf a b rule m
  pub answer_is : answer ≡ value_of query (dimension_of a) (dimension_of b) m
