-- The envelope of the moving lines before.
use Rattle.point_set.specs.Extents.{moving_positions}
use Rattle.figure_extent.proofs.SoFar.{IsEnvelopeSoFar}
use Rattle.figure_extent.proofs.parts.of_moving.Given as goal

abbrev pub invariant-loop-line : goal.invariant-loop-line
invariant-loop-line l = IsEnvelopeSoFar moving_positions l.lines l.line-index l.envelope
