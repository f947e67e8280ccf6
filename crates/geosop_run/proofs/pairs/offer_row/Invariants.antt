-- The lines of the pairs so far are taken, and the figures are as they were.
use Rattle.std.proofs.Common.{◌≡◌, map, take}
use Rattle.geosop_run.specs.Text.{IsLineOf}
use Rattle.geosop_run.proofs.Parts.{HasTakenParts}
use Rattle.geosop_run.proofs.pairs.offer_row.Given as goal

abbrev pub invariant-loop-of_b : goal.invariant-loop-of_b
invariant-loop-of_b g l = record {
  same_a : l.of_a.figure ≡ l.a;
  same_b : map (λ b. b.figure) l.in_b ≡ map (λ b. b.figure) l.fn.in_b;
  lines : HasTakenParts (IsLineOf l.asked.rule l.asked.query l.a) (take l.of_b-index (map (λ b. b.figure) l.fn.in_b))
      (g.O.Sink.seen l.fn.out) (g.O.Sink.seen l.out);
}
