-- The edges of the rows so far.
use Rattle.std.proofs.Common.{◌≡◌, take}
use Rattle.area_entry.specs.RowSections.{segs_of_rows}
use Rattle.area_entry.proofs.near_rows.segs_of.Given as goal

abbrev pub invariant-loop-row : goal.invariant-loop-row
invariant-loop-row l = l.segs ≡ segs_of_rows (take l.row-index l.rows)
