use Rattle.bound_rule.proofs.AtSpots.{AreSpotsSoFar}
use Rattle.bound_rule.proofs.spots.Spots.build.Given as goal

abbrev pub invariant-loop-line : goal.invariant-loop-line
invariant-loop-line l = AreSpotsSoFar l.v l.line-index l.spots
