-- The answers to a query on one figure and each of a list.
use Rattle.std.specs.Prelude.{◌≡◌, ℕ, List, length}
use Rattle.point_set.specs.declared.figure.Figure.{Figure}
use Rattle.point_set.specs.declared.rule.Rule.{Rule}
use Rattle.point_set.specs.Validity.{IsAtPlace}
use Rattle.relate_core.specs.Answers.{IsAnswerTo}
use Rattle.topo_pred.specs.declared.Answer.{Answer}
use Rattle.topo_pred.specs.declared.Query.{Query}

-- There are as many answers as figures in the list, and each is the answer on the one figure and that of the list at its place.
pub record AreAnswersTo (query : Query) (a : Figure) (rule : Rule) (list : List Figure) (answers : List Answer) : Type 0 where
  pub count : length answers ≡ length list
  pub each :
      (place : ℕ) (b : Figure) (answer : Answer) → IsAtPlace list place b → IsAtPlace answers place answer
      → IsAnswerTo query a b rule answer
