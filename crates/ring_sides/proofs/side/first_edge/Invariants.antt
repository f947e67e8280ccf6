-- The positions so far are equal to the first one, so the first edge is that of the positions that are left.
use Rattle.std.proofs.Common.{◌≡◌, slice_get, drop}
use Rattle.point_set.specs.Rings.{edges_after}
use Rattle.ring_sides.proofs.side.first_edge.Given as goal

abbrev pub invariant-loop-p : goal.invariant-loop-p
invariant-loop-p l = slice_get (edges_after l.first l.others) 0 ≡ slice_get (edges_after l.first (drop l.p-index l.others)) 0
