-- The rows so far and those of the lines that are left are all rows of the lines, and each has its hand.
use Rattle.std.proofs.Common.{◌≡◌, ◌++◌, All, drop}
use Rattle.point_set.specs.Edges.{edges_of_lines}
use Rattle.ring_sides.specs.Rows.{owned_edges, HasItsHand}
use Rattle.ring_sides.proofs.edges.add_lines.Given as goal

abbrev pub invariant-loop-place : goal.invariant-loop-place
invariant-loop-place l = record {
  edges : owned_edges l.fn.rows ++ edges_of_lines 0 l.figure.lines ≡ owned_edges l.rows
      ++ edges_of_lines l.place (drop l.place l.figure.lines);
  hands : All (HasItsHand l.figure) l.rows;
}
