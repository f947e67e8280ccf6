-- Each row that was written adds to what was taken, and one that wasn't leaves a front of it.
use Rattle.std.proofs.Common.{◌≡◌, ◌+◌, ◌∙◌, Err, List, ap, arith, subst, map, drop, length}
use Rattle.std.proofs.lemmas.Result.{err_from_is_err_and}
use Rattle.std.proofs.lemmas.List.Elements.{All-drop}
use Rattle.std.proofs.lemmas.List.{with_items_is}
use Rattle.point_set.specs.declared.figure.Figure.{Figure}
use Rattle.geosop_run.specs.Sources.{IsSound}
use Rattle.geosop_run.specs.Text.{IsRowOf, IsTextOf, IsTextWritten}
use Rattle.geosop_run.proofs.Parts.{text_unbegun, text_ended, taken_more}
use Rattle.geosop_run.proofs.SomeText.{some_text_of}
use Rattle.geosop_run.proofs.pairs.offer_plain.Goals as goal

pub returns-in_err-of_b : goal.returns-in_err-of_b
returns-in_err-of_b g c =
    let p = err_from_is_err_and c.from_residual.result c.from_residual.ensures.1 in
    let asked = c.args.asked in
    rw (p.1, p.2)
    (record {
      written = text_unbegun (IsTextOf asked.rule asked.query c.args.in_a.now c.args.in_b.now) (g.O.Sink.seen c.args.out.now)
          (some_text_of asked.rule asked.query c.args.in_a.now c.args.in_b.now c.requires.a_sound c.requires.b_sound);
    })

pub returns-in_err-offer_row : goal.returns-in_err-offer_row
returns-in_err-offer_row g c =
    let p = err_from_is_err_and c.from_residual-in_err-offer_row.result c.from_residual-in_err-offer_row.ensures.1 in
    let i = c.loop-a.a-index in
    let asked = c.args.asked in
    let fault = c.in_err-offer_row.field-0.0 in
    let figures = (λ j. map (λ b. b.figure) (c.as_mut_slice.ensures.value j)) ∙ c.loop-a.invariant.same_b in
    rw (p.1, p.2)
    (record {
      written = text_ended fault (IsRowOf asked.rule asked.query c.args.in_b.now) c.args.in_a.now i _ c.a-item.result _ _ _
          c.a-item.is c.loop-a-test.true c.loop-a.invariant.rows
          (subst (λ (in_b : List Figure). IsTextWritten (IsRowOf asked.rule asked.query in_b c.a-item.result) (Err fault)
          (g.O.Sink.seen c.loop-a.out) (g.O.Sink.seen c.offer_row.new.out))
          figures c.in_err-offer_row.ensures.written)
          (some_text_of asked.rule asked.query (drop (i + 1) c.args.in_a.now) c.args.in_b.now
          (All-drop IsSound (i + 1) c.args.in_a.now c.requires.a_sound) c.requires.b_sound);
    })

pub loop-a-preserved : goal.loop-a-preserved
loop-a-preserved g c =
    let asked = c.args.asked in
    let row = c.in_ok-offer_row.ensures.written in
    let kept = c.offer_row.new.in_b in
    let long : length kept ≡ c.loop-a.of_b.len = omega (arith, c.offer_row.auto.in_b, c.as_mut_slice.ensures.len) in
    let figures = (λ j. map (λ b. b.figure) (c.as_mut_slice.ensures.value j)) ∙ c.loop-a.invariant.same_b in
    record {
      same_b = ap (map (λ b. b.figure)) (with_items_is c.loop-a.of_b kept long) ∙ c.in_ok-offer_row.ensures.kept ∙ figures;
      rows = taken_more (IsRowOf asked.rule asked.query c.args.in_b.now) c.args.in_a.now c.loop-a.a-index _ c.a-item.result _ _ _ row.text
          c.a-item.is c.loop-a-test.true c.loop-a.invariant.rows
          (subst (λ (in_b : List Figure). IsRowOf asked.rule asked.query in_b c.a-item.result row.text) figures row.is_text) row.written;
    }
