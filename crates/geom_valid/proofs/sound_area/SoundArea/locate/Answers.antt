use Rattle.std.proofs.Common.{List, sym, ◌∙◌, subst, ap}
use Rattle.std.specs.Prelude.{Option}
use Rattle.plane_exact.specs.NodePoints.{point_at}
use Rattle.plane_exact.specs.declared.point.Seg.{Seg}
use Rattle.point_set.specs.declared.figure.Area.{Area}
use Rattle.point_set.specs.Location.{location}
use Rattle.geom_valid.specs.Grounds.{AreHeightsOf}
use Rattle.geom_valid.proofs.AloneValid.{valid_alone}
use Rattle.geom_valid.proofs.sound_area.SoundArea.locate.Goals as goal

pub returns-in-Some : goal.returns-in-Some
returns-in-Some c =
    let area = c.self.inside.rings in
    let sound = c.self.invariant.sound in
    let heights = subst (λ (h : Option (List Seg)). AreHeightsOf c.self.inside.rows h) c.in-Some.is c.self.invariant.heights_are in
    record {
      location = c.locate.ensures.location area (valid_alone area sound.sound) (sym (heights ∙ sound.rows_are.segs))
          ∙ ap (λ (a : Area). location a (point_at c.args.n.now)) c.self.view_is;
    }

pub returns-in-None : goal.returns-in-None
returns-in-None c = record {
  location = c.locate_plain.ensures.location ∙ ap (λ (a : Area). location a (point_at c.args.n.now)) (c.area.ensures.area ∙ c.self.view_is);
}
