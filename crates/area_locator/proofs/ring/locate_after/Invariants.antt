-- The edges so far don't hold the node, and `odd` tells whether the ray crosses an odd number of them.
use Rattle.std.proofs.Common.{◌≡◌, drop}
use Rattle.plane_exact.specs.NodePoints.{point_at}
use Rattle.plane_exact.specs.Places.{IsInLimit}
use Rattle.point_set.specs.Rings.{edges_after, is_on_edges, is_odd, differ}
use Rattle.area_locator.proofs.ring.locate_after.Given as goal

abbrev pub invariant-loop-p : goal.invariant-loop-p
invariant-loop-p l = record {
  last : IsInLimit l.last;
  on : is_on_edges (point_at l.n) (edges_after l.fn.first l.others) ≡ is_on_edges (point_at l.n)
      (edges_after l.last (drop l.p-index l.others));
  odd : is_odd (point_at l.n) (edges_after l.fn.first l.others) ≡ differ l.odd
      (is_odd (point_at l.n) (edges_after l.last (drop l.p-index l.others)));
}
