-- What the areas at the places before say; none of them has the node inside.
use Rattle.std.proofs.Common.{◌≡◌}
use Rattle.plane_exact.specs.NodePoints.{point_at}
use Rattle.union_locator.proofs.NearAreas.{ArePassed}
use Rattle.union_locator.proofs.areas.locate_in_near.Given as goal

abbrev pub invariant-loop-place : goal.invariant-loop-place
invariant-loop-place g l = record {
  figure : g.L.AreaLocs.figure l.areas ≡ g.L.AreaLocs.figure l.fn.areas;
  passed : ArePassed (g.L.AreaLocs.figure l.fn.areas).areas (point_at l.n) l.places l.place-index l.found;
}
