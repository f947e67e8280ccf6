-- The session stays that of the prepared figure, and there is one more answer.
use Rattle.std.proofs.Common.{[], ◌∷◌, ◌++◌, take, ap, sym, subst, ◌∙◌}
use Rattle.std.proofs.lemmas.List.{take_more}
use Rattle.relate_core.specs.Answers.{IsAnswerTo}
use Rattle.pair_batch.proofs.Answering.{one_more_answer}
use Rattle.pair_batch.specs.Answers.{AreAnswersTo}
use Rattle.pair_batch.proofs.share.answers_to_all.Goals as goal

pub loop-figure-preserved : goal.loop-figure-preserved
loop-figure-preserved c =
    let query = c.args.asked.query in
    let rule = c.args.asked.rule in
    let a = c.args.prepared.now.figure in
    let list = c.args.figures.now in
    let k = c.loop-figure.figure-index in
    let b = c.figure-item.result in
    let answer = c.in_ok-evaluate.field-0 in
    let is : IsAnswerTo query a b rule answer
    = subst (λ f. IsAnswerTo query f b rule answer) c.loop-figure.invariant.session
    (subst (λ f. IsAnswerTo query c.loop-figure.session.figure f rule answer) c.in_ok-plain.ensures.figure
    c.in_ok-evaluate.ensures.points) in
    let more = one_more_answer query a rule (take k list) c.loop-figure.answers b answer c.loop-figure.invariant.answers is in
    record {
      session = c.evaluate.ensures.figure_a ∙ c.loop-figure.invariant.session;
      answers = subst (λ figures. AreAnswersTo query a rule figures c.push.new.self)
          (ap (λ f. take k list ++ f ∷ []) c.figure-item.is ∙ sym (take_more list k b c.loop-figure-test.true))
          (subst (AreAnswersTo query a rule (take k list ++ b ∷ [])) (sym c.in_ok-push.ensures.ok) more);
    }
