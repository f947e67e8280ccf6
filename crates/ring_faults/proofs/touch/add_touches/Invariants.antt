-- The links with the edges at the places so far were added.
use Rattle.std.proofs.Common.{take}
use Rattle.ring_faults.specs.Touches.{AddsTouches, IsAmong}
use Rattle.ring_faults.proofs.touch.add_touches.Given as goal

abbrev pub invariant-loop-place : goal.invariant-loop-place
invariant-loop-place l = AddsTouches l.edges l.e (IsAmong l.edges (take l.place-index l.places)) l.fn.links.items l.links.items
