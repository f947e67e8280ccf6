-- The copy has the segments so far.
use Rattle.std.proofs.Common.{◌≡◌, take}
use Rattle.relate_prep.proofs.sources.copy_of.Given as goal

abbrev pub invariant-loop-seg : goal.invariant-loop-seg
invariant-loop-seg l = l.copy ≡ take l.seg-index l.segs
