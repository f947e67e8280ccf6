use Rattle.std.proofs.Common.{◌<◌, List, length, refl, sym, subst}
use Rattle.plane_exact.specs.declared.window.Window.{Window}
use Rattle.figure_laws.proofs.Lists.Places.{read_at}
use Rattle.geom_valid.specs.Boxes.{HoldsNear}
use Rattle.geom_valid.proofs.NearPlaces.{near_found}
use Rattle.geom_valid.proofs.near_boxes.NearBoxes.near.Goals as goal

pub returns : goal.returns
returns c =
    let boxes = c.self.inside.boxes in
    let below : c.args.place < length boxes = subst (λ (bs : List Window). c.args.place < length bs)
    (sym c.self.view_is) c.requires.place in
    let at = read_at boxes boxes c.args.place c.at.result.now refl below c.at.ensures.item in
    record {
      near = subst (λ (bs : List Window). HoldsNear bs c.args.place c.query.new.out) c.self.view_is
          (near_found boxes c.self.inside.index.segs c.self.invariant c.args.place c.at.result.now at c.query.new.out
          c.in_ok-query.ensures.places);
    }
