-- The line is that of the answer; where there is none, there is still a line that wasn't begun.
use Rattle.std.proofs.lemmas.Result.{err_from_is_err_and}
use Rattle.geosop_run.specs.Text.{line_of, IsLineOf}
use Rattle.geosop_run.proofs.Parts.{text_unbegun}
use Rattle.geosop_run.proofs.SomeText.{some_line, line_of_answer}
use Rattle.geosop_run.proofs.pairs.offer_pair.Goals as goal

pub returns : goal.returns
returns g c =
    let answer = c.in_ok-answer.answer in
    record {
      written = record {
        text = line_of answer;
        is_text = line_of_answer c.args.asked.rule c.args.asked.query c.args.a.now.figure c.args.b.now.figure answer
            c.in_ok-answer.ensures.points;
        written = c.in_ok-offer_answer.ensures.offered.whole;
      };
      a_kept = c.in_ok-answer.ensures.figure_a;
      b_kept = c.in_ok-answer.ensures.figure_b;
    }

pub returns-in_err-answer-clause-written : goal.returns-in_err-answer-clause-written
returns-in_err-answer-clause-written g c =
    let p = err_from_is_err_and c.from_residual.result c.from_residual.ensures.1 in
    let asked = c.args.asked in
    rw (p.1, p.2)
    (text_unbegun (IsLineOf asked.rule asked.query c.args.a.now.figure c.args.b.now.figure) (g.O.Sink.seen c.args.out.now)
    (some_line asked.rule asked.query c.args.a.now.figure c.args.b.now.figure c.requires.a_sound c.requires.b_sound))

pub returns-in_err-offer_answer-clause-written : goal.returns-in_err-offer_answer-clause-written
returns-in_err-offer_answer-clause-written g c =
    let p = err_from_is_err_and c.from_residual-in_err-offer_answer.result c.from_residual-in_err-offer_answer.ensures.1 in
    let answer = c.in_ok-answer.answer in
    rw (p.1, p.2)
    (record {
      text = line_of answer;
      is_text = line_of_answer c.args.asked.rule c.args.asked.query c.args.a.now.figure c.args.b.now.figure answer
          c.in_ok-answer.ensures.points;
      written = c.in_err-offer_answer.ensures.offered.front;
    })
