-- The lines so far are taken.
use Rattle.std.proofs.Common.{◌≡◌, take}
use Rattle.geosop_run.specs.Text.{line_of}
use Rattle.geosop_run.proofs.Parts.{HasTakenParts}
use Rattle.geosop_run.proofs.batches.offer_answers.Given as goal

abbrev pub invariant-loop-answer : goal.invariant-loop-answer
invariant-loop-answer g l =
    HasTakenParts (λ answer part. part ≡ line_of answer) (take l.answer-index l.answers) (g.O.Sink.seen l.fn.out) (g.O.Sink.seen l.out)
