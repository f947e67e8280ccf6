-- The envelope of the ways before.
use Rattle.point_set.specs.Nodes.{positions_of_ways}
use Rattle.figure_extent.proofs.SoFar.{IsEnvelopeSoFar}
use Rattle.figure_extent.proofs.envelopes.of_ways.Given as goal

abbrev pub invariant-loop-way : goal.invariant-loop-way
invariant-loop-way l = IsEnvelopeSoFar positions_of_ways l.ways l.way-index l.envelope
