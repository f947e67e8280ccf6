-- Each line that was written adds to what was taken, and one that wasn't leaves a front of it.
use Rattle.std.proofs.Common.{◌+◌, ◌∙◌, Err, subst, map, drop, get_or}
use Rattle.std.proofs.lemmas.Result.{err_from_is_err_and}
use Rattle.std.proofs.lemmas.List.Elements.{All-drop}
use Rattle.std.proofs.Math.Seq.{map-set_same}
use Rattle.point_set.specs.declared.figure.Figure.{Figure}
use Rattle.geosop_run.specs.Sources.{IsSound}
use Rattle.geosop_run.specs.Text.{IsLineOf, IsRowOf, IsTextWritten}
use Rattle.geosop_run.proofs.Kept.{item_holds, item_seen, seen_past, seen_within}
use Rattle.geosop_run.proofs.Parts.{text_unbegun, text_ended, text_written, taken_more}
use Rattle.geosop_run.proofs.SomeText.{some_row}
use Rattle.geosop_run.proofs.pairs.offer_row.Goals as goal

pub returns-in_err-of_a-clause-written : goal.returns-in_err-of_a-clause-written
returns-in_err-of_a-clause-written g c =
    let p = err_from_is_err_and c.from_residual.result c.from_residual.ensures.1 in
    let figures = map (λ b. b.figure) c.args.in_b.now in
    rw (p.1, p.2)
    (text_unbegun (IsRowOf c.args.asked.rule c.args.asked.query figures c.args.a.now) (g.O.Sink.seen c.args.out.now)
    (some_row c.args.asked.rule c.args.asked.query c.args.a.now figures c.requires.a_sound c.requires.b_sound))

pub offer_pair-requires-clause-b_sound : goal.offer_pair-requires-clause-b_sound
offer_pair-requires-clause-b_sound g c =
    item_holds (λ b. b.figure) IsSound c.loop-of_b.in_b (map (λ b. b.figure) c.args.in_b.now) c.loop-of_b.of_b-index c.of_b-item.result
    c.loop-of_b.invariant.same_b c.requires.b_sound
    (seen_within (λ b. b.figure) c.args.in_b.now c.loop-of_b.of_b-index c.loop-of_b-test.true)

pub returns-in_err-offer_pair-clause-written : goal.returns-in_err-offer_pair-clause-written
returns-in_err-offer_pair-clause-written g c =
    let p = err_from_is_err_and c.from_residual-in_err-offer_pair.result c.from_residual-in_err-offer_pair.ensures.1 in
    let figures = map (λ b. b.figure) c.args.in_b.now in
    let i = c.loop-of_b.of_b-index in
    let b = (get_or c.loop-of_b.in_b i c.of_b-item.result).figure in
    let fault = c.in_err-offer_pair.field-0.0 in
    let asked = c.args.asked in
    rw (p.1, p.2)
    (text_ended fault (IsLineOf asked.rule asked.query c.args.a.now) figures i c.of_b-item.result.figure b _ _ _
    (item_seen (λ b. b.figure) c.loop-of_b.in_b figures i c.of_b-item.result c.loop-of_b.invariant.same_b)
    (seen_within (λ b. b.figure) c.args.in_b.now i c.loop-of_b-test.true) c.loop-of_b.invariant.lines
    (subst (λ (a : Figure). IsTextWritten (IsLineOf asked.rule asked.query a b) (Err fault) (g.O.Sink.seen c.loop-of_b.out)
    (g.O.Sink.seen c.offer_pair.new.out))
    c.loop-of_b.invariant.same_a c.in_err-offer_pair.ensures.written)
    (some_row asked.rule asked.query c.args.a.now (drop (i + 1) figures) c.requires.a_sound
    (All-drop IsSound (i + 1) figures c.requires.b_sound)))

pub returns-in_err-offer_pair-clause-kept : goal.returns-in_err-offer_pair-clause-kept
returns-in_err-offer_pair-clause-kept g c =
    map-set_same (λ b. b.figure) c.loop-of_b.in_b c.loop-of_b.of_b-index c.offer_pair.new.b c.of_b-item.result
    c.in_err-offer_pair.ensures.b_kept ∙ c.loop-of_b.invariant.same_b

pub loop-of_b-preserved : goal.loop-of_b-preserved
loop-of_b-preserved g c =
    let figures = map (λ b. b.figure) c.args.in_b.now in
    let i = c.loop-of_b.of_b-index in
    let b = (get_or c.loop-of_b.in_b i c.of_b-item.result).figure in
    let asked = c.args.asked in
    let line = c.in_ok-offer_pair.ensures.written in
    record {
      same_a = c.in_ok-offer_pair.ensures.a_kept ∙ c.loop-of_b.invariant.same_a;
      same_b = map-set_same (λ b. b.figure) c.loop-of_b.in_b i c.offer_pair.new.b c.of_b-item.result
          c.in_ok-offer_pair.ensures.b_kept ∙ c.loop-of_b.invariant.same_b;
      lines = taken_more (IsLineOf asked.rule asked.query c.args.a.now) figures i c.of_b-item.result.figure b _ _ _ line.text
          (item_seen (λ b. b.figure) c.loop-of_b.in_b figures i c.of_b-item.result c.loop-of_b.invariant.same_b)
          (seen_within (λ b. b.figure) c.args.in_b.now i c.loop-of_b-test.true) c.loop-of_b.invariant.lines
          (subst (λ (a : Figure). IsLineOf asked.rule asked.query a b line.text) c.loop-of_b.invariant.same_a line.is_text) line.written;
    }

pub returns-clause-written : goal.returns-clause-written
returns-clause-written g c =
    let figures = map (λ b. b.figure) c.args.in_b.now in
    text_written (IsLineOf c.args.asked.rule c.args.asked.query c.args.a.now) figures c.loop-of_b.of_b-index _ _
    (seen_past (λ b. b.figure) c.args.in_b.now c.loop-of_b.of_b-index c.loop-of_b-test.false) c.loop-of_b.invariant.lines
