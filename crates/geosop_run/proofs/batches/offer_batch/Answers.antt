-- The lines are those of the answers; where there are none, there is still a row that wasn't begun.
use Rattle.std.proofs.lemmas.Result.{err_from_is_err_and}
use Rattle.geosop_run.proofs.Parts.{text_unbegun}
use Rattle.geosop_run.proofs.SomeText.{row_written, some_row}
use Rattle.geosop_run.proofs.batches.offer_batch.Goals as goal

pub returns-in_err-made : goal.returns-in_err-made
returns-in_err-made g c =
    let p = err_from_is_err_and c.from_residual.result c.from_residual.ensures.1 in
    let some = some_row c.args.asked.rule c.args.asked.query c.args.a.now.figure c.args.batch.now c.requires.a_sound c.requires.b_sound in
    rw (p.1, p.2) (record { written = text_unbegun _ (g.O.Sink.seen c.args.out.now) some })

pub returns-in_err-offer_answers : goal.returns-in_err-offer_answers
returns-in_err-offer_answers g c =
    let p = err_from_is_err_and c.from_residual-in_err-offer_answers.result c.from_residual-in_err-offer_answers.ensures.1 in
    rw (p.1, p.2) (record {
      written = row_written _ _ c.as_slice.ensures.items c.in_ok-made.ensures.answers c.in_err-offer_answers.ensures.offered.front;
    })

pub returns : goal.returns
returns g c = record {
  written = row_written _ _ c.as_slice.ensures.items c.in_ok-made.ensures.answers c.in_ok-offer_answers.ensures.offered.whole;
}
