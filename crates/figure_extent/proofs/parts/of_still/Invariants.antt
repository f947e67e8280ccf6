-- The envelope of the still lines before.
use Rattle.point_set.specs.Extents.{still_positions}
use Rattle.figure_extent.proofs.SoFar.{IsEnvelopeSoFar}
use Rattle.figure_extent.proofs.parts.of_still.Given as goal

abbrev pub invariant-loop-line : goal.invariant-loop-line
invariant-loop-line l = IsEnvelopeSoFar still_positions l.lines l.line-index l.envelope
