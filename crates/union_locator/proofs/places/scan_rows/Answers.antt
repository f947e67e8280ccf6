use Rattle.union_locator.proofs.Scans.{row_scanned}
use Rattle.union_locator.proofs.places.scan_rows.Goals as goal

pub loop-place-preserved : goal.loop-place-preserved
loop-place-preserved c =
    row_scanned _ c.as_slice-row-items.ensures.items c.loop-place-test.true c.of.ensures.least c.meets.ensures.common
    c.loop-place.invariant c.in_ok-push_met.ensures.met c.in_ok-push_met.ensures.passed
