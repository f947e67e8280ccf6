use Rattle.std.proofs.Common.{length, ◌-◌, ◌≡◌, ◌≤◌, take}
use Rattle.geosop_io.specs.Sink.{after_taking}
use Rattle.geosop_io.proofs.sink.offer_whole.Given as goal

-- The front of the piece up to the place was taken.
abbrev pub invariant-loop-at : goal.invariant-loop-at
invariant-loop-at g l = record {
  within : l.at ≤ length l.piece;
  taken : g.O.Sink.seen l.out ≡ after_taking (g.O.Sink.seen l.fn.out) (take l.at l.piece);
}

abbrev pub decreases-loop-at : goal.decreases-loop-at
decreases-loop-at g l = length l.piece - l.at
