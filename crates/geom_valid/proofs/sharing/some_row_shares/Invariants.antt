-- None of the rows before has a common segment with a row of the other list.
use Rattle.geom_valid.specs.Sharing.{SharesWithRow}
use Rattle.geom_valid.proofs.RingLists.{NoneBefore}
use Rattle.geom_valid.proofs.sharing.some_row_shares.Given as goal

abbrev pub invariant-loop-row : goal.invariant-loop-row
invariant-loop-row l = NoneBefore (SharesWithRow l.other) l.row-items l.row-index
