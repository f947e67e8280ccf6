-- Each piece that was taken whole adds to what was taken, and a piece that wasn't leaves a front of it.
use Rattle.std.proofs.Common.{◌≡◌, refl}
use Rattle.std.proofs.lemmas.Result.{err_from_is_err_and}
use Rattle.geosop_run.proofs.Parts.{taken_none, taken_more, taken_all, taken_flat, failed_flat}
use Rattle.geosop_run.proofs.output.offer_pieces.Goals as goal

pub loop-piece-init : goal.loop-piece-init
loop-piece-init g c = taken_none (λ x part. part ≡ x.now) _

pub loop-piece-preserved : goal.loop-piece-preserved
loop-piece-preserved g c =
    taken_more (λ x part. part ≡ x.now) c.args.pieces.now c.loop-piece.piece-index _ _ _ _ _ _ refl c.loop-piece-test.true
    c.loop-piece.invariant refl c.in_ok-offer_whole.ensures.offered.whole

pub returns : goal.returns
returns g c = record {
  offered = record {
    whole = taken_flat (λ x. x.now) c.args.pieces.now _ _
        (taken_all (λ x part. part ≡ x.now) c.args.pieces.now c.loop-piece.piece-index _ _ c.loop-piece-test.false c.loop-piece.invariant);
    front = tt;
  };
}

pub returns-in_err-offer_whole : goal.returns-in_err-offer_whole
returns-in_err-offer_whole g c =
    let p = err_from_is_err_and c.from_residual.result c.from_residual.ensures.1 in
    rw p.1
    (record {
      offered = record {
        whole = tt;
        front = failed_flat (λ x. x.now) c.args.pieces.now c.loop-piece.piece-index _ _ _ _ _ refl c.loop-piece-test.true
            c.loop-piece.invariant c.in_err-offer_whole.ensures.offered.front;
      };
    })
