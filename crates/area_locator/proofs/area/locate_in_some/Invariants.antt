-- No edge so far holds the node, and `inside` tells whether it is inside one of the rings.
use Rattle.std.proofs.Common.{◌≡◌, drop, ◌||◌}
use Rattle.std.specs.List.{list_any}
use Rattle.plane_exact.specs.NodePoints.{point_at}
use Rattle.point_set.specs.Location.{edges_of_rings}
use Rattle.point_set.specs.Rings.{is_on_edges, is_inside}
use Rattle.area_locator.proofs.area.locate_in_some.Given as goal

abbrev pub invariant-loop-ring : goal.invariant-loop-ring
invariant-loop-ring l = record {
  on : is_on_edges (point_at l.n) (edges_of_rings l.rings) ≡ is_on_edges (point_at l.n) (edges_of_rings (drop l.ring-index l.rings));
  inside : list_any (is_inside (point_at l.n)) l.rings ≡ (l.inside || list_any (is_inside (point_at l.n)) (drop l.ring-index l.rings));
}
