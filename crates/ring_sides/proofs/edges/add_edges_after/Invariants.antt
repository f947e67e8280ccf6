-- The rows so far and those of the positions that are left are all rows.
use Rattle.std.proofs.Common.{◌≡◌, ◌++◌, map, drop}
use Rattle.point_set.specs.Rings.{edges_after}
use Rattle.ring_sides.specs.Rows.{row_of}
use Rattle.ring_sides.proofs.edges.add_edges_after.Given as goal

abbrev pub invariant-loop-p : goal.invariant-loop-p
invariant-loop-p l =
    l.fn.rows ++ map (row_of l.owner l.hand) (edges_after l.fn.first l.others)
    ≡ l.rows ++ map (row_of l.owner l.hand) (edges_after l.last (drop l.p-index l.others))
