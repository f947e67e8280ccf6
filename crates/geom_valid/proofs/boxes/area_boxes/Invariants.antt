-- The boxes so far are round the areas so far.
use Rattle.geom_valid.specs.Boxes.{IsRoundArea}
use Rattle.geom_valid.proofs.NearPlaces.{AreRoundBefore}
use Rattle.geom_valid.proofs.boxes.area_boxes.Given as goal

abbrev pub invariant-loop-area : goal.invariant-loop-area
invariant-loop-area l = AreRoundBefore IsRoundArea l.areas l.boxes l.area-index
