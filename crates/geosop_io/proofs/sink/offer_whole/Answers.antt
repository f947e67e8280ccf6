use Rattle.std.proofs.Common.{arith}
use Rattle.geosop_io.proofs.Taken.{after_taking-nil, taken_onward}
use Rattle.geosop_io.proofs.sink.offer_whole.Goals as goal

pub loop-at-init : goal.loop-at-init
loop-at-init g c = record { within = omega arith; taken = after_taking-nil (g.O.Sink.seen c.args.out.now) }

pub loop-at-preserved : goal.loop-at-preserved
loop-at-preserved g c = record {
  within = omega (arith, c.in_ok-at.ensures.bound);
  taken = taken_onward _ _ _ c.args.piece.now c.loop-at.at c.in_ok-at.field-0 c.loop-at.invariant.taken c.in_ok-at.ensures.ok;
}
