-- From none of the rows at the places before does the edge run on into the part.
use Rattle.point_set.specs.declared.figure.Area.{Area}
use Rattle.area_entry.proofs.Searches.{NoneBefore}
use Rattle.valid_laws.specs.Entering.{IsClean}
use Rattle.area_entry.specs.Entries.{IsUnshared, RunsOnFromRow}
use Rattle.area_entry.specs.Grounds.{AreRowsOf}
use Rattle.area_entry.proofs.entering.runs_on_from_some.Given as goal

abbrev pub invariant-loop-place : goal.invariant-loop-place
invariant-loop-place l =
    (area : Area) → IsClean area → AreRowsOf area l.rows → IsUnshared area l.edge.seg
    → NoneBefore (RunsOnFromRow l.edge.seg l.rows area l.part) l.places l.place-index
