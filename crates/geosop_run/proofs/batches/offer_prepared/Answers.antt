-- Each row that was written adds to what was taken, and one that wasn't leaves a front of it.
use Rattle.std.proofs.Common.{◌≡◌, ◌∙◌, ◌∷◌, ◌++◌, [], List, Err, ap, length, refl, reverse, sym, subst}
use Rattle.std.specs.List.{All}
use Rattle.std.proofs.lemmas.List.{reverse-reverse}
use Rattle.std.proofs.lemmas.List.Elements.{All-head}
use Rattle.std.proofs.lemmas.Result.{err_from_is_err_and}
use Rattle.point_set.specs.declared.figure.Figure.{Figure}
use Rattle.geosop_run.specs.declared.pairs.PairFault.TheVariants as fault
use Rattle.geosop_run.specs.Sources.{IsSound}
use Rattle.geosop_run.specs.Text.{IsRowOf, IsTextWritten}
use Rattle.geosop_run.proofs.Parts.{text_unbegun, one_part}
use Rattle.geosop_run.proofs.Popped.{last_first}
use Rattle.geosop_run.proofs.SomeText.{some_row, some_text_of}
use Rattle.geosop_run.proofs.Stretches.{All-behind, All-stretch, HasTakenUpTo, of_one, up_to_end, up_to_fault, up_to_next, up_to_start}
use Rattle.geosop_run.proofs.batches.offer_prepared.Goals as goal

-- a figure that is taken from the end of those left, which are sound, is sound, and so are the others
sound_last : (left whole : List Figure) (x : Figure) → whole ≡ left ++ x ∷ [] → All IsSound (reverse whole)
    → IsSound x × All IsSound (reverse left)
sound_last left whole x split sound =
    let first = last_first left whole x split in (
      All-head IsSound x [] (All-stretch IsSound (x ∷ []) (reverse left) (reverse whole) first sound),
      All-behind IsSound (x ∷ []) (reverse left) (reverse whole) first sound,
    )

pub loop-figure-init : goal.loop-figure-init
loop-figure-init g c =
    let asked = c.args.asked in
    let IsRow = IsRowOf asked.rule asked.query c.args.in_b.now in
    let seen = g.O.Sink.seen c.args.out.now in
    subst (λ (left : List Figure). HasTakenUpTo IsRow c.args.in_a left seen seen)
    (sym (ap reverse c.reverse.ensures.reversed ∙ reverse-reverse c.args.in_a)) (up_to_start IsRow c.args.in_a seen)

pub offer_batches-requires-clause-a_sound : goal.offer_batches-requires-clause-a_sound
offer_batches-requires-clause-a_sound g c lifetimes outlive =
    let taken = c.loop-figure.invariant in
    let sound = sound_last _ _ c.in-Some.figure c.in-Some.ensures.last (All-behind IsSound taken.done _ _ taken.order c.requires.a_sound) in
    subst IsSound (sym c.in_ok-a.ensures.figure) sound.0

pub loop-figure-preserved : goal.loop-figure-preserved
loop-figure-preserved g c =
    let asked = c.args.asked in
    let row = c.in_ok-offer_batches.ensures.written in
    let IsRow = IsRowOf asked.rule asked.query c.args.in_b.now in
    up_to_next IsRow c.args.in_a _ (c.in-Some.figure ∷ []) _ _ _ _ row.text (last_first _ _ c.in-Some.figure c.in-Some.ensures.last)
    c.loop-figure.invariant
    (one_part IsRow c.in-Some.figure row.text (subst (λ (f : Figure). IsRow f row.text) c.in_ok-a.ensures.figure row.is_text)) row.written

pub returns-in_err-a : goal.returns-in_err-a
returns-in_err-a g c =
    let p = err_from_is_err_and c.from_residual.result c.from_residual.ensures.1 in
    let asked = c.args.asked in
    let IsRow = IsRowOf asked.rule asked.query c.args.in_b.now in
    let taken = c.loop-figure.invariant in
    let seen = g.O.Sink.seen c.loop-figure.out in
    let last = c.in-Some.ensures.last in
    let sound = sound_last _ _ c.in-Some.figure last (All-behind IsSound taken.done _ _ taken.order c.requires.a_sound) in
    rw (p.1, p.2)
    (record {
      written = up_to_fault IsRow fault.NoMemory c.args.in_a _ (c.in-Some.figure ∷ []) _ _ seen seen (last_first _ _ c.in-Some.figure last)
          taken
          (of_one IsRow (Err fault.NoMemory) c.in-Some.figure seen seen
          (text_unbegun (IsRow c.in-Some.figure) seen
          (some_row asked.rule asked.query c.in-Some.figure c.args.in_b.now sound.0 c.requires.b_sound)))
          (some_text_of asked.rule asked.query _ c.args.in_b.now sound.1 c.requires.b_sound);
    })

pub returns-in_err-offer_batches : goal.returns-in_err-offer_batches
returns-in_err-offer_batches g c =
    let p = err_from_is_err_and c.from_residual-in_err-offer_batches.result c.from_residual-in_err-offer_batches.ensures.1 in
    let asked = c.args.asked in
    let IsRow = IsRowOf asked.rule asked.query c.args.in_b.now in
    let taken = c.loop-figure.invariant in
    let e = c.in_err-offer_batches.field-0.0 in
    let last = c.in-Some.ensures.last in
    let sound = sound_last _ _ c.in-Some.figure last (All-behind IsSound taken.done _ _ taken.order c.requires.a_sound) in
    rw (p.1, p.2)
    (record {
      written = up_to_fault IsRow e c.args.in_a _ (c.in-Some.figure ∷ []) _ _ _ _ (last_first _ _ c.in-Some.figure last) taken
          (of_one IsRow (Err e) c.in-Some.figure _ _
          (subst (λ (f : Figure). IsTextWritten (IsRow f) (Err e) (g.O.Sink.seen c.loop-figure.out)
          (g.O.Sink.seen c.offer_batches.new.out))
          c.in_ok-a.ensures.figure c.in_err-offer_batches.ensures.written))
          (some_text_of asked.rule asked.query _ c.args.in_b.now sound.1 c.requires.b_sound);
    })

pub returns : goal.returns
returns g c =
    let asked = c.args.asked in
    record {
      written = up_to_end (IsRowOf asked.rule asked.query c.args.in_b.now) c.args.in_a _ _ _
          (ap (λ (left : List Figure). length (reverse left)) (c.in_default.ensures.none.0 refl)) c.loop-figure.invariant;
    }
