-- No hole so far overlaps an earlier one.
use Rattle.std.proofs.Common.{ℕ, ◌<◌}
use Rattle.geom_valid.specs.Grounds.{OverlapsEarlierHole}
use Rattle.geom_valid.proofs.ring_set.RingSet.has_holes_that_overlap.Given as goal

abbrev pub invariant-loop-place : goal.invariant-loop-place
invariant-loop-place l = (k : ℕ) → k < l.place → ¬ OverlapsEarlierHole l.self.holes k
