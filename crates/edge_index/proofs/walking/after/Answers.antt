use Rattle.std.proofs.Common.{◌≡◌, ◌/◌, ℕ, arith, subst}
use Rattle.std.specs.Prelude.{None}
use Rattle.edge_index.specs.Walks.{IsAfter}
use Rattle.edge_index.specs.Walks.IsAfter.{root, left, right}
use Rattle.edge_index.proofs.walking.after.Goals as goal
use Rattle.edge_index.proofs.walking.after.Goals.{then-loop-place-test+else-place-eq0, else-loop-place-test}

pub loop-place-preserved : goal.loop-place-preserved
loop-place-preserved c =
    (omega arith, λ next follows. c.loop-place.invariant.1 next (right c.loop-place.place _ next (omega arith) follows))

pub returns-then-place-gt0 : goal.returns-then-place-gt0
returns-then-place-gt0 c =
    let place = c.loop-place.place in
    elim c.loop-place-test.branch [
      | then-loop-place-test+else-place-eq0 w ↦ record { after = c.loop-place.invariant.1 _ (left place (place / 2) (omega arith)) }
      | else-loop-place-test w ↦ absurd (omega arith)
    ]

pub returns-else-place-gt0 : goal.returns-else-place-gt0
returns-else-place-gt0 c =
    let zero : 0 ≡ c.loop-place.place = omega arith in
    record { after = c.loop-place.invariant.1 None (subst (λ (place : ℕ). IsAfter place None) zero root) }
