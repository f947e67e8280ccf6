-- The rows so far and those of the areas that are left are all rows of the areas, and each has its hand.
use Rattle.std.proofs.Common.{◌≡◌, ◌++◌, All, drop}
use Rattle.point_set.specs.Edges.{edges_of_areas}
use Rattle.ring_sides.specs.Rows.{owned_edges, HasItsHand}
use Rattle.ring_sides.proofs.edges.add_areas.Given as goal

abbrev pub invariant-loop-place : goal.invariant-loop-place
invariant-loop-place l = record {
  edges : owned_edges l.fn.rows ++ edges_of_areas 0 l.v.areas ≡ owned_edges l.rows ++ edges_of_areas l.place (drop l.place l.v.areas);
  hands : All (HasItsHand l.v) l.rows;
}
