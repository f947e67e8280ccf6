-- The envelope of the positions before.
use Rattle.figure_extent.proofs.SoFar.{IsEnvelopeSoFar}
use Rattle.figure_extent.proofs.envelopes.of_way.Given as goal

abbrev pub invariant-loop-p : goal.invariant-loop-p
invariant-loop-p l = IsEnvelopeSoFar (λ xs. xs) l.way l.p-index l.envelope
