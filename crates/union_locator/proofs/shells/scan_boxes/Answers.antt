use Rattle.union_locator.proofs.Scans.{box_scanned}
use Rattle.union_locator.proofs.shells.scan_boxes.Goals as goal

pub loop-place-preserved : goal.loop-place-preserved
loop-place-preserved c =
    box_scanned _ c.as_slice-around-items.ensures.items c.loop-place-test.true c.meets.ensures.common c.loop-place.invariant
    c.in_ok-push_met.ensures.met c.in_ok-push_met.ensures.passed
