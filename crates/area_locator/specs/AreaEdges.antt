-- The edges that a walk over an area has left.
use Rattle.std.specs.Prelude.{List, ◌++◌}
use Rattle.plane_exact.specs.declared.point.Seg.{Seg}
use Rattle.point_set.specs.Location.{edges_of_rings}
use Rattle.point_set.specs.Rings.{edges_after}
use Rattle.area_locator.specs.declared.edges.AreaEdges.{AreaEdges}

-- Those of the present ring, and then those of the rings after it.
abbrev pub edges_left : AreaEdges → List Seg
edges_left walk = edges_after walk.last walk.positions.now ++ edges_of_rings walk.rings.now
