use Rattle.std.proofs.Common.{get_or}
use Rattle.std.proofs.lemmas.List.{get_or_default}
use Rattle.ring_faults.proofs.ClassSteps.{put_next}
use Rattle.ring_faults.proofs.classes.relabel.Goals as goal

pub loop-ring-preserved : goal.loop-ring-preserved
loop-ring-preserved c =
    let rings = c.args.rings.now in
    let i = c.loop-ring.ring-index in
    let ring = get_or rings i 0 in
    put_next c.args.label rings c.args.labels.now c.loop-ring.labels i ring c.loop-ring-test.true
    (get_or_default rings i 0 ring c.loop-ring-test.true) (c.requires.rings i 0 c.loop-ring-test.true) c.loop-ring.invariant
