-- The edges so far, and those that the walk has left, are all edges of the area.
use Rattle.std.proofs.Common.{◌≡◌, ◌++◌}
use Rattle.area_locator.specs.AreaEdges.{edges_left}
use Rattle.area_locator.specs.Indexed.{edges_of_area}
use Rattle.area_locator.proofs.area_index.edges_in.Given as goal

abbrev pub invariant-loop-edge : goal.invariant-loop-edge
invariant-loop-edge l = l.edges ++ edges_left l.edge-iterator ≡ edges_of_area l.area
