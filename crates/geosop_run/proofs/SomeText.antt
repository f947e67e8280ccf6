-- Pairs of sound figures have lines, rows and texts, whatever is asked of them.
use Rattle.std.proofs.Common.{◌≡◌, ℕ, suc, List, [], ◌∷◌, Result, refl, sym, ap, subst, arith}
use Rattle.std.specs.List.{All, flat_map}
use Rattle.point_set.specs.declared.figure.Figure.{Figure}
use Rattle.point_set.specs.declared.rule.Rule.{Rule}
use Rattle.point_set.specs.Shape.{dimension_of}
use Rattle.point_set.specs.Visible.{AreValid}
use Rattle.topo_pred.specs.declared.Query.{Query}
use Rattle.topo_pred.specs.declared.Answer.{Answer}
use Rattle.topo_pred.specs.Values.{value_of}
use Rattle.relate_core.specs.Answers.{IsAnswerTo}
use Rattle.pair_batch.specs.Answers.{AreAnswersTo}
use Rattle.cell_laws.proofs.Cells.Matrix.{decided_by_samples}
use Rattle.geosop_io.specs.Sink.{SinkSeen}
use Rattle.geosop_run.specs.declared.pairs.PairFault.{PairFault}
use Rattle.geosop_run.specs.Sources.{IsSound}
use Rattle.geosop_run.specs.Text.{line_of, IsLineOf, IsRowOf, IsTextOf, IsTextWritten, IsWritten}
use Rattle.geosop_run.proofs.Parts.{some_text}

module _ (rule : Rule) (query : Query) where
  -- a pair has a line
  pub some_line : (a b : Figure) → IsSound a → IsSound b → (line : List ℕ) × IsLineOf rule query a b line
  some_line a b h k =
      let valid : AreValid a b = record { a_shaped = h.shaped; b_shaped = k.shaped; a_valid = h.valid; b_valid = k.valid } in
      let decided = decided_by_samples a b valid rule in (
        line_of (value_of query (dimension_of a) (dimension_of b) decided.matrix),
        record { matrix = decided.matrix; is_matrix = decided.of_points; spelled = refl },
      )

  -- the line of an answer is that of its pair
  pub line_of_answer : (a b : Figure) (answer : Answer) → IsAnswerTo query a b rule answer → IsLineOf rule query a b (line_of answer)
  line_of_answer a b answer h = record { matrix = h.m; is_matrix = h.of_points; spelled = ap line_of h.answer_is }

  -- the lines of the answers of a figure with each of a list are their row
  row_of_answers : (a : Figure) (in_b : List Figure) (answers : List Answer) → AreAnswersTo query a rule in_b answers
      → IsRowOf rule query in_b a (flat_map line_of answers)
  row_of_answers a [] [] h = refl
  row_of_answers a [] (answer ∷ others) h = absurd (omega (arith, h.count))
  row_of_answers a (b ∷ in_b) [] h = absurd (omega (arith, h.count))
  row_of_answers a (b ∷ in_b) (answer ∷ others) h = record {
    first = line_of answer;
    rest = flat_map line_of others;
    is_first = line_of_answer a b answer (h.each 0 b answer refl refl);
    is_rest = row_of_answers a in_b others
        (record { count = omega (arith, h.count); each = λ place c other at_c at_other. h.each (suc place) c other at_c at_other });
    joined = refl;
  }

  -- what was written of these lines is of that row
  pub row_written : {a : Figure} {in_b : List Figure} {answers items : List Answer} {result : Result
      (Unit {0}) PairFault} {old new : SinkSeen}
      → items ≡ answers → AreAnswersTo query a rule in_b answers → IsWritten result old new (flat_map line_of items)
      → IsTextWritten (IsRowOf rule query in_b a) result old new
  row_written {a = a} {in_b = in_b} {items = items} same are written = record {
    text = flat_map line_of items;
    is_text = row_of_answers a in_b items (subst (AreAnswersTo query a rule in_b) (sym same) are);
    written = written;
  }

  -- a figure has a row with each list
  pub some_row : (a : Figure) (in_b : List Figure) → IsSound a → All IsSound in_b → (row : List ℕ) × IsRowOf rule query in_b a row
  some_row a in_b h k = some_text (IsLineOf rule query a) in_b (λ i d below. some_line a _ h (k i d below))

  -- two lists have a text
  pub some_text_of : (in_a in_b : List Figure) → All IsSound in_a → All IsSound in_b → (text : List ℕ) × IsTextOf rule query in_a in_b text
  some_text_of in_a in_b h k = some_text (IsRowOf rule query in_b) in_a (λ i d below. some_row _ in_b (h i d below) k)
