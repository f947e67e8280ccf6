-- The segments of the edges so far.
use Rattle.std.proofs.Common.{◌≡◌, take}
use Rattle.ring_faults.specs.Parts.{segs_of}
use Rattle.ring_faults.proofs.near.segs_of.Given as goal

abbrev pub invariant-loop-edge : goal.invariant-loop-edge
invariant-loop-edge l = l.segs ≡ segs_of (take l.edge-index l.edges)
