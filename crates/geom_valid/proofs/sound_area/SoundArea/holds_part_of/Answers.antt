use Rattle.std.proofs.Common.{List, sym, ◌∙◌, subst, ap}
use Rattle.std.proofs.lemmas.Result.{IfOk-weaker}
use Rattle.plane_exact.specs.declared.point.Pt.{Pt}
use Rattle.point_set.specs.declared.figure.Area.{Area}
use Rattle.point_set.specs.Location.{location}
use Rattle.valid_laws.proofs.Clauses.OverAllPoints.{disc_edges}
use Rattle.area_entry.specs.Entries.{BeginsIn}
use Rattle.geom_valid.specs.Grounds.{IsDisc, IsSoundWith}
use Rattle.geom_valid.proofs.sound_area.SoundArea.holds_part_of.Goals as goal

pub returns : goal.returns
returns c =
    let area = c.args.self.now in
    let ring = c.args.ring.now in
    let own : IsSoundWith area c.self.inside.rows = subst
    (λ (a : Area). IsSoundWith a c.self.inside.rows) c.self.view_is c.self.invariant.sound in
    let its : IsDisc ring c.ring.inside.rows = subst (λ (r : List Pt). IsDisc r c.ring.inside.rows) c.ring.view_is c.ring.invariant.disc in
    let begins : BeginsIn ring area c.locate-first.result = λ p is. ap (location area) (sym (c.start.ensures.start p is))
    ∙ sym c.locate-first.ensures.location in
    record {
      holds = IfOk-weaker c.enters.result _ _
          (λ b decides. decides ring area
          (its.rows_are.segs ∙ disc_edges ring) its.simple own.sound.clean own.rows_are c.requires.unshared begins)
          c.enters.ensures.enters;
      clean = own.sound.clean;
    }
