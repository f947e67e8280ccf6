-- The edge clashes with none at the places so far.
use Rattle.ring_faults.proofs.ClashSearch.{HasNoClashBefore}
use Rattle.ring_faults.proofs.clash.clashes_with_some.Given as goal

abbrev pub invariant-loop-place : goal.invariant-loop-place
invariant-loop-place l = HasNoClashBefore l.clash l.edges l.i l.places l.place-index
