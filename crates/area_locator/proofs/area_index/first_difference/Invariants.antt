-- The edges up to the place, and those that the walk has left, are all edges of the area.
use Rattle.std.proofs.Common.{◌≡◌, ◌≤◌, ◌++◌, length, take}
use Rattle.area_locator.specs.AreaEdges.{edges_left}
use Rattle.area_locator.specs.Indexed.{edges_of_area}
use Rattle.area_locator.proofs.area_index.first_difference.Given as goal

abbrev pub invariant-loop-edge : goal.invariant-loop-edge
invariant-loop-edge l = record {
  within : l.place ≤ length l.edges;
  same : take l.place l.edges ++ edges_left l.edge-iterator ≡ edges_of_area l.area;
}
