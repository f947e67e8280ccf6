use Rattle.std.proofs.Common.{subst, sym}
use Rattle.std.proofs.lemmas.Result.{IfOk-weaker}
use Rattle.plane_exact.specs.NodePoints.{point_at}
use Rattle.union_locator.specs.Shells.{AreShellBoxes}
use Rattle.union_locator.proofs.NearShells.{near_areas}
use Rattle.union_locator.proofs.areas.IndexedAreasAreaLocs.near.Goals as goal

pub returns-clause-near : goal.returns-clause-near
returns-clause-near c =
    let f = c.self.inside.valid.now in
    let boxes = c.self.inside.shells in
    let known = c.self.invariant in
    let are = subst (AreShellBoxes f.areas) (sym c.make_index.ensures.same) known.shells in
    IfOk-weaker c.near.result _ _
    (λ _ found. near_areas f boxes (point_at c.args.n.now) c.near.new.out known.shaped known.valid known.shells (found f.areas are))
    c.near.ensures.near
