-- From none of the area's edges before does an edge of the ring run on into the part.
use Rattle.std.specs.List.{All}
use Rattle.point_set.specs.declared.figure.Area.{Area}
use Rattle.area_entry.proofs.Searches.{NoneBefore}
use Rattle.valid_laws.specs.Entering.{IsClean}
use Rattle.area_entry.specs.Entries.{IsUnshared, SomeRunsOnFrom}
use Rattle.area_entry.specs.Grounds.{AreRowsOf}
use Rattle.area_entry.proofs.entering.runs_from_some_row.Given as goal

abbrev pub invariant-loop-row : goal.invariant-loop-row
invariant-loop-row l =
    (area : Area) → IsClean area → AreRowsOf area l.rows → All (λ row. IsUnshared area row.seg) l.ring
    → NoneBefore (SomeRunsOnFrom l.ring area l.part) l.rows l.row-index
