-- The row at none of the places before has a common segment with the edge.
use Rattle.geom_valid.proofs.RingLists.{NoneBefore}
use Rattle.geom_valid.specs.Sharing.{SharesAtPlace}
use Rattle.geom_valid.proofs.sharing.shares_at_some.Given as goal

abbrev pub invariant-loop-place : goal.invariant-loop-place
invariant-loop-place l = NoneBefore (SharesAtPlace l.row.seg l.rows) l.place-items l.place-index
