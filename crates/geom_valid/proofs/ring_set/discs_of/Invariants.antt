-- The discs so far are those of the holes so far.
use Rattle.std.proofs.Common.{◌≡◌, take}
use Rattle.geom_valid.proofs.ring_set.discs_of.Given as goal

abbrev pub invariant-loop-hole : goal.invariant-loop-hole
invariant-loop-hole l = l.discs ≡ take l.hole-index l.hole-items
