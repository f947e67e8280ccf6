-- The pieces so far are taken.
use Rattle.std.proofs.Common.{◌≡◌, take}
use Rattle.geosop_run.proofs.Parts.{HasTakenParts}
use Rattle.geosop_run.proofs.output.offer_pieces.Given as goal

abbrev pub invariant-loop-piece : goal.invariant-loop-piece
invariant-loop-piece g l =
    HasTakenParts (λ x part. part ≡ x.now) (take l.piece-index l.pieces) (g.O.Sink.seen l.fn.out) (g.O.Sink.seen l.out)
