-- The count so far and that of the edges that are left make that of all edges.
use Rattle.std.proofs.Common.{◌≡◌, drop}
use Rattle.plane_exact.specs.Places.{IsInLimit}
use Rattle.point_set.specs.Rings.{edges_after, is_odd, differ}
use Rattle.ring_sides.specs.Middles.{middle_of}
use Rattle.ring_sides.proofs.middle.is_odd_at_middle.Given as goal

abbrev pub invariant-loop-p : goal.invariant-loop-p
invariant-loop-p l = record {
  last : IsInLimit l.last;
  odd : is_odd (middle_of l.edge) (edges_after l.fn.first l.others) ≡ differ l.odd
      (is_odd (middle_of l.edge) (edges_after l.last (drop l.p-index l.others)));
}
