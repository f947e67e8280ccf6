-- Answers on lists that are put together.
use Rattle.std.proofs.Common.{◌≡◌, ℕ, zero, suc, List, [], ◌∷◌, ◌++◌, length, refl, sym, ◌∙◌, subst, arith}
use Rattle.std.proofs.lemmas.List.{length-append}
use Rattle.figure_laws.proofs.Lists.Places.{some_same}
use Rattle.point_set.specs.declared.figure.Figure.{Figure}
use Rattle.point_set.specs.declared.rule.Rule.{Rule}
use Rattle.point_set.specs.Validity.{IsAtPlace}
use Rattle.relate_core.specs.Answers.{IsAnswerTo}
use Rattle.topo_pred.specs.declared.Answer.{Answer}
use Rattle.topo_pred.specs.declared.Query.{Query}
use Rattle.pair_batch.specs.Answers.{AreAnswersTo}

-- At each place at which two lists have items, these belong together.
abbrev pub AreTogether : {X Y : Type 0} → (X → Y → Type 0) → List X → List Y → Type 0
AreTogether {X} {Y} Belong xs ys = (place : ℕ) (x : X) (y : Y) → IsAtPlace xs place x → IsAtPlace ys place y → Belong x y

-- so it is with two lists that are put together
together_both : {X Y : Type 0} (Belong : X → Y → Type 0) (xs xs' : List X) (ys ys' : List Y) → length ys ≡ length xs
    → AreTogether Belong xs ys → AreTogether Belong xs' ys' → AreTogether Belong (xs ++ xs') (ys ++ ys')
together_both Belong [] xs' [] ys' same one two place x y at_x at_y = two place x y at_x at_y
together_both Belong [] xs' (y₀ ∷ ys) ys' same one two place x y at_x at_y = cc
together_both Belong (x₀ ∷ xs) xs' [] ys' same one two place x y at_x at_y = cc
together_both Belong (x₀ ∷ xs) xs' (y₀ ∷ ys) ys' same one two zero x y at_x at_y = one zero x y at_x at_y
together_both Belong (x₀ ∷ xs) xs' (y₀ ∷ ys) ys' same one two (suc place) x y at_x at_y =
    together_both Belong xs xs' ys ys' (omega (arith, same)) (λ p v w. one (suc p) v w) two place x y at_x at_y

-- no figure has no answer
pub no_answers : (query : Query) (a : Figure) (rule : Rule) → AreAnswersTo query a rule [] []
no_answers query a rule = record { count = refl; each = λ place b answer at_b at_answer. cc }

-- the answers on two lists are those on both
pub answers_on_both : (query : Query) (a : Figure) (rule : Rule) (list more : List Figure) (answers others : List Answer)
    → AreAnswersTo query a rule list answers → AreAnswersTo query a rule more others
    → AreAnswersTo query a rule (list ++ more) (answers ++ others)
answers_on_both query a rule list more answers others one two =
    let of_one = one.count in
    let of_two = two.count in
    record {
      count = length-append answers others ∙ (omega (arith, of_one, of_two)) ∙ sym (length-append list more);
      each = together_both (λ b answer. IsAnswerTo query a b rule answer) list more answers others of_one one.each two.each;
    }

-- an answer on one figure is a list of answers
one_answer : (query : Query) (a : Figure) (rule : Rule) (b : Figure) (answer : Answer) → IsAnswerTo query a b rule answer
    → AreAnswersTo query a rule (b ∷ []) (answer ∷ [])
one_answer query a rule b answer is = record { count = refl; each = only }
  where
    only : AreTogether (λ other x. IsAnswerTo query a other rule x) (b ∷ []) (answer ∷ [])
    only zero other x at_b at_x =
        let e : b ≡ other = some_same at_b in
        let d : answer ≡ x = some_same at_x in
        subst (λ y. IsAnswerTo query a other rule y) d (subst (λ o. IsAnswerTo query a o rule answer) e is)
    only (suc place) other x at_b at_x = cc

-- with one more answer
pub one_more_answer : (query : Query) (a : Figure) (rule : Rule) (list : List Figure) (answers : List Answer) (b : Figure)
    (answer : Answer)
    → AreAnswersTo query a rule list answers → IsAnswerTo query a b rule answer
    → AreAnswersTo query a rule (list ++ b ∷ []) (answers ++ answer ∷ [])
one_more_answer query a rule list answers b answer are is =
    answers_on_both query a rule list (b ∷ []) answers (answer ∷ []) are (one_answer query a rule b answer is)
