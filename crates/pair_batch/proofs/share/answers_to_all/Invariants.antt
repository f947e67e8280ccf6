-- The answers on the figures so far, and the session is for the prepared figure.
use Rattle.std.proofs.Common.{◌≡◌, take}
use Rattle.pair_batch.specs.Answers.{AreAnswersTo}
use Rattle.pair_batch.proofs.share.answers_to_all.Given as goal

abbrev pub invariant-loop-figure : goal.invariant-loop-figure
invariant-loop-figure l = record {
  session : l.session.figure ≡ l.prepared.figure;
  answers : AreAnswersTo l.asked.query l.prepared.figure l.asked.rule (take l.figure-index l.figures) l.answers;
}
