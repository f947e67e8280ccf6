use Rattle.bound_rule.proofs.AtSpots.{ArePointsSoFar}
use Rattle.bound_rule.proofs.spots.Spots.of_points.Given as goal

abbrev pub invariant-loop-point : goal.invariant-loop-point
invariant-loop-point l = ArePointsSoFar l.points l.point-index l.spots
