-- None of the ring's edges before runs on into the part.
use Rattle.std.specs.List.{All}
use Rattle.point_set.specs.declared.figure.Area.{Area}
use Rattle.area_entry.proofs.Searches.{NoneBefore}
use Rattle.valid_laws.specs.Entering.{IsClean}
use Rattle.area_entry.specs.Entries.{IsUnshared, RunsInto}
use Rattle.area_entry.specs.Grounds.{AreRowsOf}
use Rattle.area_entry.proofs.entering.some_edge_runs_into.Given as goal

abbrev pub invariant-loop-edge : goal.invariant-loop-edge
invariant-loop-edge l =
    (area : Area) → IsClean area → AreRowsOf area l.rows → All (λ row. IsUnshared area row.seg) l.ring
    → NoneBefore (λ row. RunsInto area l.part row.seg) l.ring l.edge-index
