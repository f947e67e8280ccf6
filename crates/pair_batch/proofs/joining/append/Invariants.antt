-- The answers before, and then those that were put.
use Rattle.std.proofs.Common.{◌≡◌, ◌++◌, take}
use Rattle.pair_batch.proofs.joining.append.Given as goal

abbrev pub invariant-loop-answer : goal.invariant-loop-answer
invariant-loop-answer l = l.answers ≡ l.fn.answers ++ take l.answer-index l.more
