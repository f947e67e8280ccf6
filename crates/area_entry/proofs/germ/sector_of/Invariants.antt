-- The direction isn't in one of the sectors before.
use Rattle.plane_exact.specs.Orders.{direction_of}
use Rattle.area_entry.proofs.SectorPlaces.{NotBefore}
use Rattle.area_entry.proofs.germ.sector_of.Given as goal

abbrev pub invariant-loop-i : goal.invariant-loop-i
invariant-loop-i l = NotBefore l.fan.rays (direction_of l.d) l.i
