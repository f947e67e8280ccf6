-- What a run writes: a line for each pair, with the answer on the matrix of the two point sets.
use Rattle.std.specs.Prelude.{◌≡◌, ◌⊎◌, ℕ, Bool, true, false, List, [], ◌∷◌, ◌++◌, Option, Some, None, Result, Ok, Err, codes}
use Rattle.im_matrix.specs.Cells.{matrix_text}
use Rattle.im_matrix.specs.declared.Matrix.{Matrix}
use Rattle.im_matrix.specs.declared.Which.TheVariants.{A, B}
use Rattle.point_set.specs.declared.figure.Figure.{Figure}
use Rattle.point_set.specs.declared.rule.Rule.{Rule}
use Rattle.point_set.specs.Relation.{IsMatrixOf}
use Rattle.point_set.specs.Shape.{dimension_of}
use Rattle.topo_pred.specs.declared.Query.{Query}
use Rattle.topo_pred.specs.declared.Answer.{Answer}
use Rattle.topo_pred.specs.declared.Answer.TheVariants.{Im, Truth}
use Rattle.topo_pred.specs.Values.{value_of}
use Rattle.sample_figures.specs.Samples.{figures_of_sample}
use Rattle.line_summary.specs.Summary.{IsSummaryOf}
use Rattle.geosop_io.specs.Sink.{SinkSeen, HasTakenFront, HasFailedAt, after_taking}
use Rattle.geosop_run.specs.declared.pairs.PairFault.{PairFault}
use Rattle.geosop_run.specs.declared.pairs.PairFault.TheVariants as fault

-- A text of two parts.
pub record IsJoined (IsFirst IsRest : List ℕ → Type 0) (text : List ℕ) : Type 0 where
  pub first : List ℕ
  pub rest : List ℕ
  pub is_first : IsFirst first
  pub is_rest : IsRest rest
  pub joined : text ≡ first ++ rest

-- A text of one part for each item of a list, in order.
abbrev pub IsTextOfEach : {X : Type 0} → (X → List ℕ → Type 0) → List X → List ℕ → Type 0
IsTextOfEach IsPart [] text = text ≡ []
IsTextOfEach IsPart (item ∷ others) text = IsJoined (IsPart item) (IsTextOfEach IsPart others) text

-- The characters of an answer: the nine of the matrix, or the word of the truth value.
abbrev pub answer_text : Answer → List ℕ
answer_text (Im matrix) = matrix_text matrix
answer_text (Truth true) = codes "true"
answer_text (Truth false) = codes "false"

-- The line of an answer: its characters and a line feed.
abbrev pub line_of : Answer → List ℕ
line_of answer = answer_text answer ++ 10 ∷ []

-- The line of a pair: that of the query's value on the matrix of the two point sets under the rule.
pub record IsLineOf (rule : Rule) (query : Query) (a b : Figure) (line : List ℕ) : Type 0 where
  pub matrix : Matrix
  pub is_matrix : IsMatrixOf a b rule matrix
  pub spelled : line ≡ line_of (value_of query (dimension_of a) (dimension_of b) matrix)

-- The lines of one figure with each of a list, in order.
abbrev pub IsRowOf : Rule → Query → List Figure → Figure → List ℕ → Type 0
IsRowOf rule query in_b a = IsTextOfEach (IsLineOf rule query a) in_b

-- The lines of all pairs: for each figure of A in order, those with each figure of B in order.
abbrev pub IsTextOf : Rule → Query → List Figure → List Figure → List ℕ → Type 0
IsTextOf rule query in_a in_b = IsTextOfEach (IsRowOf rule query in_b) in_a

-- The summary of a text of this kind.
pub record IsSummedUp (IsText : List ℕ → Type 0) (summary : List ℕ) : Type 0 where
  pub text : List ℕ
  pub is_text : IsText text
  pub summed : IsSummaryOf text summary

-- What is told of all pairs: their lines. Under a sample its figures stand in place of both sides, and the summary of the lines
-- in place of the lines.
abbrev pub IsToldOf : Option ℕ → Rule → Query → List Figure → List Figure → List ℕ → Type 0
IsToldOf None rule query in_a in_b text = IsTextOf rule query in_a in_b text
IsToldOf (Some number) rule query in_a in_b text =
    IsSummedUp (IsTextOf rule query (figures_of_sample number A) (figures_of_sample number B)) text

-- A text of this kind, or none where the run is quiet.
abbrev pub IsTextUnless : Bool → (List ℕ → Type 0) → List ℕ → Type 0
IsTextUnless true IsText text = text ≡ []
IsTextUnless false IsText text = IsText text

-- What came of a text that was to be written: all of it was taken, or a front of it, and then a fault was counted or memory wanting.
abbrev pub IsWritten : Result (Unit {0}) PairFault → SinkSeen → SinkSeen → List ℕ → Type 0
IsWritten (Ok done) old new text = new ≡ after_taking old text
IsWritten (Err fault.WriteFault) old new text = HasFailedAt old new text
IsWritten (Err fault.NoMemory) old new text = HasTakenFront old new text

-- A text of this kind was to be written.
pub record IsTextWritten (IsText : List ℕ → Type 0) (result : Result (Unit {0}) PairFault) (old new : SinkSeen) : Type 0 where
  pub text : List ℕ
  pub is_text : IsText text
  pub written : IsWritten result old new text

-- Memory was wanting before anything was written.
pub record IsStarved (result : Result (Unit {0}) PairFault) (old new : SinkSeen) : Type 0 where
  pub wanting : result ≡ Err fault.NoMemory
  pub unwritten : new ≡ old

-- What came of what a run was to tell: a text of this kind was to be written, or memory was wanting before.
abbrev pub IsOutcome : (List ℕ → Type 0) → Result (Unit {0}) PairFault → SinkSeen → SinkSeen → Type 0
IsOutcome IsText result old new = IsTextWritten IsText result old new ⊎ IsStarved result old new
