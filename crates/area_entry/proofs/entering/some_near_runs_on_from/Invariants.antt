-- None of the ring's edges at the places before runs on into the part, from a point of the area's edge.
use Rattle.std.proofs.Common.{ℕ}
use Rattle.std.specs.List.{All}
use Rattle.point_set.specs.declared.figure.Area.{Area}
use Rattle.point_set.specs.Validity.{IsAtPlace}
use Rattle.area_entry.proofs.Searches.{NoneBefore}
use Rattle.valid_laws.specs.Entering.{IsClean}
use Rattle.area_entry.specs.Entries.{IsUnshared, RunsOnAtPlace}
use Rattle.area_entry.specs.Grounds.{AreRowsOf}
use Rattle.area_entry.proofs.entering.some_near_runs_on_from.Given as goal

abbrev pub invariant-loop-place : goal.invariant-loop-place
invariant-loop-place l =
    (area : Area) → IsClean area → AreRowsOf area l.rows → All (λ row. IsUnshared area row.seg) l.ring → (at : ℕ)
    → IsAtPlace l.rows at l.row
    → NoneBefore (RunsOnAtPlace l.ring l.row.seg area l.part) l.places l.place-index
