-- The rows so far are taken, and the figures that are left stand in their turned order.
use Rattle.std.proofs.Common.{length, reverse}
use Rattle.geosop_run.specs.Text.{IsRowOf}
use Rattle.geosop_run.proofs.Stretches.{HasTakenUpTo}
use Rattle.geosop_run.proofs.batches.offer_prepared.Given as goal

abbrev pub invariant-loop-figure : goal.invariant-loop-figure
invariant-loop-figure g l =
    HasTakenUpTo (IsRowOf l.asked.rule l.asked.query l.in_b) l.fn.in_a (reverse l.in_a) (g.O.Sink.seen l.fn.out) (g.O.Sink.seen l.out)

abbrev pub decreases-loop-figure : goal.decreases-loop-figure
decreases-loop-figure g l = length l.in_a
