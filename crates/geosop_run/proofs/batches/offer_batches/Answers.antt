-- Each batch that was written adds to what was taken, and one that wasn't leaves a front of it.
use Rattle.std.proofs.Common.{◌∙◌, List, ap, arith, sym, subst}
use Rattle.std.specs.Slice.Iter.{chunks_rest, chunks_size}
use Rattle.std.proofs.lemmas.Result.{err_from_is_err_and}
use Rattle.point_set.specs.declared.figure.Figure.{Figure}
use Rattle.geosop_run.specs.Sources.{IsSound}
use Rattle.geosop_run.specs.Text.{IsLineOf}
use Rattle.geosop_run.proofs.Stretches.{All-behind, All-stretch, HasTakenUpTo, up_to_end, up_to_fault, up_to_next, up_to_start}
use Rattle.geosop_run.proofs.SomeText.{some_row}
use Rattle.geosop_run.proofs.batches.offer_batches.Goals as goal

pub loop-batch-init : goal.loop-batch-init
loop-batch-init g c =
    let whole = c.into_iter-batch-iterator.ensures.into_iter_gives in
    let asked = c.args.asked in
    let IsLine = IsLineOf asked.rule asked.query c.args.a.now.figure in
    let seen = g.O.Sink.seen c.args.out.now in
    record {
      size = ap chunks_size whole ∙ c.chunks-batch-items.ensures.size;
      lines = subst (λ (left : List Figure). HasTakenUpTo IsLine c.args.in_b.now left seen seen)
          (sym (ap chunks_rest whole ∙ c.chunks-batch-items.ensures.rest)) (up_to_start IsLine c.args.in_b.now seen);
    }

pub offer_batch-requires-clause-few : goal.offer_batch-requires-clause-few
offer_batch-requires-clause-few g c = omega (arith, c.in-Some.ensures.steps.1.1, c.loop-batch.invariant.size)

pub offer_batch-requires-clause-b_sound : goal.offer_batch-requires-clause-b_sound
offer_batch-requires-clause-b_sound g c lifetimes outlive =
    let taken = c.loop-batch.invariant.lines in
    All-stretch IsSound c.in-Some.batch.now _ _ c.in-Some.ensures.steps.1.0
    (All-behind IsSound taken.done _ _ taken.order c.requires.b_sound)

pub loop-batch-preserved : goal.loop-batch-preserved
loop-batch-preserved g c =
    let steps = c.in-Some.ensures.steps in
    let asked = c.args.asked in
    let row = c.in_ok-offer_batch.ensures.written in
    record {
      size = steps.0 ∙ c.loop-batch.invariant.size;
      lines = up_to_next (IsLineOf asked.rule asked.query c.args.a.now.figure) c.args.in_b.now _ c.in-Some.batch.now _ _ _ _ row.text
          steps.1.0 c.loop-batch.invariant.lines row.is_text row.written;
    }

pub returns-in_err-offer_batch : goal.returns-in_err-offer_batch
returns-in_err-offer_batch g c =
    let p = err_from_is_err_and c.from_residual.result c.from_residual.ensures.1 in
    let taken = c.loop-batch.invariant.lines in
    let split = c.in-Some.ensures.steps.1.0 in
    let asked = c.args.asked in
    rw (p.1, p.2)
    (record {
      written = up_to_fault (IsLineOf asked.rule asked.query c.args.a.now.figure) c.in_err-offer_batch.field-0.0 c.args.in_b.now _
          c.in-Some.batch.now _ _ _ _ split taken c.in_err-offer_batch.ensures.written
          (some_row asked.rule asked.query c.args.a.now.figure _ c.requires.a_sound
          (All-behind IsSound c.in-Some.batch.now _ _ split (All-behind IsSound taken.done _ _ taken.order c.requires.b_sound)));
    })

pub returns : goal.returns
returns g c =
    let asked = c.args.asked in
    record {
      written = up_to_end (IsLineOf asked.rule asked.query c.args.a.now.figure) c.args.in_b.now _ _ _ c.in-None.ensures.steps.1.0
          c.loop-batch.invariant.lines;
    }
