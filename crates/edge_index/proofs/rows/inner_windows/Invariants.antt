use Rattle.edge_index.proofs.Indexes.{AreJoinedFrom}
use Rattle.edge_index.proofs.rows.inner_windows.Given as goal

-- the windows from the place on are joined
abbrev pub invariant-loop-place : goal.invariant-loop-place
invariant-loop-place l = AreJoinedFrom l.segs l.leaves l.inner.items l.place
