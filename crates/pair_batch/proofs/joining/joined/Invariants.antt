-- The lists so far are joined.
use Rattle.pair_batch.specs.Shares.{AreJoined}
use Rattle.pair_batch.proofs.joining.joined.Given as goal

abbrev pub invariant-loop-list : goal.invariant-loop-list
invariant-loop-list l = AreJoined l.yielded l.all
