-- Each line that was taken whole adds to what was taken, and a line that wasn't leaves a front of it.
use Rattle.std.proofs.Common.{◌≡◌, refl}
use Rattle.std.proofs.lemmas.Result.{err_from_is_err_and}
use Rattle.geosop_run.specs.Text.{line_of}
use Rattle.geosop_run.proofs.Parts.{taken_none, taken_more, taken_all, taken_flat, failed_flat}
use Rattle.geosop_run.proofs.batches.offer_answers.Goals as goal

pub loop-answer-init : goal.loop-answer-init
loop-answer-init g c = taken_none (λ answer part. part ≡ line_of answer) _

pub loop-answer-preserved : goal.loop-answer-preserved
loop-answer-preserved g c =
    taken_more (λ answer part. part ≡ line_of answer) c.args.answers.now c.loop-answer.answer-index _ _ _ _ _ _ refl c.loop-answer-test.true
    c.loop-answer.invariant refl c.in_ok-offer_answer.ensures.offered.whole

pub returns : goal.returns
returns g c = record {
  offered = record {
    whole = taken_flat line_of c.args.answers.now _ _
        (taken_all (λ answer part. part ≡ line_of answer) c.args.answers.now c.loop-answer.answer-index _ _ c.loop-answer-test.false
        c.loop-answer.invariant);
    front = tt;
  };
}

pub returns-in_err-offer_answer : goal.returns-in_err-offer_answer
returns-in_err-offer_answer g c =
    let p = err_from_is_err_and c.from_residual.result c.from_residual.ensures.1 in
    rw p.1
    (record {
      offered = record {
        whole = tt;
        front = failed_flat line_of c.args.answers.now c.loop-answer.answer-index _ _ _ _ _ refl c.loop-answer-test.true
            c.loop-answer.invariant c.in_err-offer_answer.ensures.offered.front;
      };
    })
