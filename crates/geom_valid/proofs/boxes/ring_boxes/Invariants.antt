-- The boxes so far are round the rings so far.
use Rattle.geom_valid.specs.Boxes.{IsRoundRing}
use Rattle.geom_valid.proofs.NearPlaces.{AreRoundBefore}
use Rattle.geom_valid.proofs.boxes.ring_boxes.Given as goal

abbrev pub invariant-loop-ring : goal.invariant-loop-ring
invariant-loop-ring l = AreRoundBefore IsRoundRing l.rings l.boxes l.ring-index
