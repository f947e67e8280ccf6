-- The edges so far clash with none.
use Rattle.ring_faults.proofs.ClashSearch.{HaveNoClashBefore}
use Rattle.ring_faults.proofs.clash.some_clash.Given as goal

abbrev pub invariant-loop-i : goal.invariant-loop-i
invariant-loop-i l = HaveNoClashBefore l.clash l.near.edges l.i
