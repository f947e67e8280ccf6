use Rattle.std.proofs.Common.{◌+◌, List, subst, sym, take}
use Rattle.plane_exact.specs.declared.window.Window.{Window}
use Rattle.figure_laws.proofs.Lists.Places.{read_at}
use Rattle.union_locator.specs.Shells.{AreShellBoxes}
use Rattle.union_locator.proofs.BoxLists.{next_box}
use Rattle.union_locator.proofs.shells.shells_of.Goals as goal

pub loop-area-preserved : goal.loop-area-preserved
loop-area-preserved c =
    let areas = c.args.figure.now.areas in
    let k = c.loop-area.area-index in
    let area = c.area-item.result in
    let at = read_at c.as_slice-area-items.result.now areas k area c.as_slice-area-items.ensures.items c.loop-area-test.true
    c.area-item.is in
    subst (λ (boxes : List Window). AreShellBoxes (take (k + 1) areas) boxes) (sym c.in_ok-push.ensures.ok)
    (next_box areas c.loop-area.boxes k area c.shell_box.result c.loop-area.invariant at c.shell_box.ensures.shell)
