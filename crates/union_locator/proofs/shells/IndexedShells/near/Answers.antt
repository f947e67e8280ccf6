use Rattle.std.proofs.Common.{◌≡◌, map, subst, sym}
use Rattle.std.specs.Prelude.{IfSome}
use Rattle.std.proofs.lemmas.Result.{IfOk-weaker}
use Rattle.plane_exact.specs.NodePoints.{point_at}
use Rattle.plane_exact.specs.Windows.{diagonal_of}
use Rattle.union_locator.specs.Shells.{AreShellBoxes}
use Rattle.union_locator.proofs.NearShells.{boxes_by_index, shells_by_boxes}
use Rattle.union_locator.proofs.shells.IndexedShells.near.Goals as goal

pub returns-in-Some : goal.returns-in-Some
returns-in-Some c = record {
  near = IfOk-weaker c.query.result _ _
      (λ _ found areas are.
      let boxes = c.self.inside.boxes in
      let w = c.round-window.result in
      let own = subst (AreShellBoxes areas) (sym c.self.view_is) are in
      let out = c.query.new.out in
      let is = subst (λ z. IfSome z (λ index. index.segs ≡ map diagonal_of boxes)) c.in-Some.is c.self.invariant.indexed in
      shells_by_boxes areas boxes own w (point_at c.args.n.now) c.round-window.ensures.least out
      (boxes_by_index areas boxes own w c.in-Some.index.segs is out found))
      c.query.ensures.places;
}

pub returns-in-None : goal.returns-in-None
returns-in-None c = record {
  near = IfOk-weaker c.scan_boxes.result _ _
      (λ _ found areas are.
      let own = subst (AreShellBoxes areas) (sym c.self.view_is) are in
      let w = c.round-window.result in
      shells_by_boxes areas c.self.inside.boxes own w (point_at c.args.n.now) c.round-window.ensures.least c.scan_boxes.new.out found)
      c.scan_boxes.ensures.places;
}
