-- The edges so far and those of the holes that are left are all edges of the area.
use Rattle.std.proofs.Common.{◌≡◌, ◌++◌, ◌+◌, map, drop}
use Rattle.point_set.specs.Location.{rings_of}
use Rattle.point_set.specs.Rings.{edges_of}
use Rattle.ring_faults.specs.Parts.{edges_of_parts}
use Rattle.ring_faults.proofs.part.edges_by_ring.Given as goal

abbrev pub invariant-loop-i : goal.invariant-loop-i
invariant-loop-i l =
    edges_of_parts 0 (map edges_of (rings_of l.area)) ≡ l.edges ++ edges_of_parts (l.i + 1) (map edges_of (drop l.i l.hole-items))
