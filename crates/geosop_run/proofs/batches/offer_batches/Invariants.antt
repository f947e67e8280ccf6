-- The lines of the batches so far are taken, and the rest is still to be cut into batches.
use Rattle.std.proofs.Common.{◌≡◌}
use Rattle.std.specs.Slice.Iter.{chunks_rest, chunks_size}
use Rattle.geosop_run.specs.Text.{IsLineOf}
use Rattle.geosop_run.proofs.Stretches.{HasTakenUpTo}
use Rattle.geosop_run.proofs.batches.offer_batches.Given as goal

abbrev pub invariant-loop-batch : goal.invariant-loop-batch
invariant-loop-batch g l = record {
  size : chunks_size l.batch-iterator ≡ 65536;
  lines : HasTakenUpTo (IsLineOf l.asked.rule l.asked.query l.a.figure) l.in_b (chunks_rest l.batch-iterator) (g.O.Sink.seen l.fn.out)
      (g.O.Sink.seen l.out);
}
