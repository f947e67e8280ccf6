-- The envelope of the areas before.
use Rattle.figure_extent.proofs.Lines.{positions_of_areas}
use Rattle.figure_extent.proofs.SoFar.{IsEnvelopeSoFar}
use Rattle.figure_extent.proofs.parts.of_areas.Given as goal

abbrev pub invariant-loop-area : goal.invariant-loop-area
invariant-loop-area l = IsEnvelopeSoFar positions_of_areas l.areas l.area-index l.envelope
