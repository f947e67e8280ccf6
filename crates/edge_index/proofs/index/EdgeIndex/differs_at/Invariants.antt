use Rattle.std.proofs.Common.{◌≡◌, ◌<◌, ℕ}
use Rattle.std.specs.Prelude.{slice_get}
use Rattle.edge_index.proofs.index.EdgeIndex.differs_at.Given as goal

-- the lists are the same up to the place
abbrev pub invariant-loop-place : goal.invariant-loop-place
invariant-loop-place l = (earlier : ℕ) → earlier < l.place → slice_get l.here earlier ≡ slice_get l.there earlier
