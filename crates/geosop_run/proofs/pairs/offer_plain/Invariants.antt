-- The rows so far are taken, and the figures are as they were.
use Rattle.std.proofs.Common.{◌≡◌, map, take}
use Rattle.geosop_run.specs.Text.{IsRowOf}
use Rattle.geosop_run.proofs.Parts.{HasTakenParts}
use Rattle.geosop_run.proofs.pairs.offer_plain.Given as goal

abbrev pub invariant-loop-a : goal.invariant-loop-a
invariant-loop-a g l = record {
  same_b : map (λ b. b.figure) l.of_b.items ≡ l.in_b;
  rows : HasTakenParts (IsRowOf l.asked.rule l.asked.query l.in_b) (take l.a-index l.in_a) (g.O.Sink.seen l.fn.out) (g.O.Sink.seen l.out);
}
