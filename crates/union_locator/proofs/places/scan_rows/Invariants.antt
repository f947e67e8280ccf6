-- The list has the places below the row's place of the rows that meet the window.
use Rattle.union_locator.proofs.Scans.{AreRowsBelow}
use Rattle.union_locator.proofs.places.scan_rows.Given as goal

abbrev pub invariant-loop-place : goal.invariant-loop-place
invariant-loop-place l = AreRowsBelow l.w l.rows l.place l.out
