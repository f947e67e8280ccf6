-- The links of the edges so far with edges of earlier parts.
use Rattle.ring_faults.specs.Touches.{AreLinksOfParts}
use Rattle.ring_faults.proofs.Touches.{IsBeforePlace}
use Rattle.ring_faults.proofs.touch.links_of.Given as goal

abbrev pub invariant-loop-i : goal.invariant-loop-i
invariant-loop-i l = AreLinksOfParts l.near.edges (IsBeforePlace l.near.edges l.i) l.links.items
