use Rattle.std.proofs.Common.{ℕ, ◌≤◌}
use Rattle.std.specs.Prelude.{Option}
use Rattle.edge_index.specs.Walks.{IsAfter}
use Rattle.edge_index.proofs.walking.after.Given as goal

-- what follows the row reached so far follows the first one
abbrev pub invariant-loop-place : goal.invariant-loop-place
invariant-loop-place l = (l.place ≤ l.initial.place) × ((next : Option ℕ) → IsAfter l.place next → IsAfter l.initial.place next)

abbrev pub decreases-loop-place : goal.decreases-loop-place
decreases-loop-place l = l.place
