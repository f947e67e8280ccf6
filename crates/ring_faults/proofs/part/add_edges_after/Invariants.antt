-- The edges so far and those of the positions that are left are all edges.
use Rattle.std.proofs.Common.{◌≡◌, ◌++◌, drop}
use Rattle.point_set.specs.Rings.{edges_after}
use Rattle.ring_faults.specs.Parts.{of_part}
use Rattle.ring_faults.proofs.part.add_edges_after.Given as goal

abbrev pub invariant-loop-p : goal.invariant-loop-p
invariant-loop-p l =
    l.fn.edges ++ of_part l.part (edges_after l.fn.first l.others) ≡ l.edges ++ of_part l.part
    (edges_after l.last (drop l.p-index l.others))
