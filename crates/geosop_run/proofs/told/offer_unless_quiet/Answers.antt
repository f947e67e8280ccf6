-- Where the run is quiet, whatever came of the lines, none were to be written.
use Rattle.std.proofs.Common.{refl}
use Rattle.geosop_run.specs.Text.{IsTextOf}
use Rattle.geosop_run.proofs.Parts.{quiet_written}
use Rattle.geosop_run.proofs.told.offer_unless_quiet.Goals as goal

pub returns-then-quiet-clause-written : goal.returns-then-quiet-clause-written
returns-then-quiet-clause-written g c =
    let IsText = IsTextOf c.args.asked.rule c.args.asked.query c.args.in_a c.args.in_b.now in
    rw (c.if-quiet.true)
    (quiet_written IsText IsText c.offer_pairs.result _ _ (g.O.Sink.seen c.args.out.now) refl c.offer_pairs.ensures.written)
