-- The summary is the text that is offered.
use Rattle.std.proofs.Common.{inl, [], refl, sym, subst}
use Rattle.std.proofs.lemmas.Result.{err_from_is_err_and}
use Rattle.im_matrix.specs.declared.Which.TheVariants.{A, B}
use Rattle.geosop_io.proofs.Laws.{after_taking-nil}
use Rattle.sample_figures.specs.Samples.{figures_of_sample}
use Rattle.geosop_run.specs.Text.{IsSummedUp, IsTextOf}
use Rattle.geosop_run.proofs.told.offer_summary.Goals as goal

pub returns-in_err-offer_whole-clause-written : goal.returns-in_err-offer_whole-clause-written
returns-in_err-offer_whole-clause-written g c =
    let p = err_from_is_err_and c.from_residual-in_err-offer_whole.result c.from_residual-in_err-offer_whole.ensures.1 in
    let asked = c.args.asked in
    rw (p.1, p.2, c.if-quiet.false)
    (inl (record {
      text = c.as_slice.result.now;
      is_text = subst (IsSummedUp (IsTextOf asked.rule asked.query (figures_of_sample c.args.number A) (figures_of_sample c.args.number B)))
          (sym c.as_slice.ensures.value) c.in_ok-summary.ensures.summary;
      written = c.in_err-offer_whole.ensures.offered.front;
    }))

pub returns-clause-written : goal.returns-clause-written
returns-clause-written g c =
    let asked = c.args.asked in
    rw (c.if-quiet.false)
    (inl (record {
      text = c.as_slice.result.now;
      is_text = subst (IsSummedUp (IsTextOf asked.rule asked.query (figures_of_sample c.args.number A) (figures_of_sample c.args.number B)))
          (sym c.as_slice.ensures.value) c.in_ok-summary.ensures.summary;
      written = c.in_ok-offer_whole.ensures.offered.whole;
    }))

pub returns-then-quiet-clause-written : goal.returns-then-quiet-clause-written
returns-then-quiet-clause-written g c =
    rw (c.if-quiet.true)
    (inl (record { text = []; is_text = refl; written = after_taking-nil (g.O.Sink.seen c.args.out.now) }))
