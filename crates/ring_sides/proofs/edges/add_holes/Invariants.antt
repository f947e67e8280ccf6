-- The rows of the holes so far were added.
use Rattle.std.proofs.Common.{take}
use Rattle.ring_sides.specs.Rows.{AddsRings}
use Rattle.ring_sides.proofs.edges.add_holes.Given as goal

abbrev pub invariant-loop-i : goal.invariant-loop-i
invariant-loop-i l = AddsRings l.area l.place 1 (take l.i l.hole-items) l.fn.rows l.rows
