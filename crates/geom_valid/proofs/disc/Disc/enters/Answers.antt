use Rattle.std.proofs.Common.{List, sym, ◌∙◌, subst, ap}
use Rattle.std.proofs.lemmas.Result.{IfOk-weaker}
use Rattle.plane_exact.specs.declared.point.Pt.{Pt}
use Rattle.plane_exact.specs.declared.point.Seg.{Seg}
use Rattle.point_set.specs.Location.{location}
use Rattle.point_set.specs.Rings.{edges_of}
use Rattle.point_set.specs.Validity.{EdgesShareSegment}
use Rattle.valid_laws.specs.Entering.{disc_of, edges_in}
use Rattle.valid_laws.proofs.Clauses.OverAllPoints.{disc_clean, disc_edges}
use Rattle.area_entry.specs.Entries.{BeginsIn}
use Rattle.geom_valid.specs.Grounds.{IsDisc}
use Rattle.geom_valid.proofs.disc.Disc.enters.Goals as goal

pub returns : goal.returns
returns c =
    let ring = c.args.self.now in
    let other = c.args.other.now in
    let own : IsDisc ring c.self.inside.rows = subst (λ (r : List Pt). IsDisc r c.self.inside.rows) c.self.view_is c.self.invariant.disc in
    let its : IsDisc other c.other.inside.rows = subst
    (λ (r : List Pt). IsDisc r c.other.inside.rows) c.other.view_is c.other.invariant.disc in
    let unshared : ¬ EdgesShareSegment (edges_of ring) (edges_in (disc_of other))
    = subst (λ (es : List Seg). ¬ EdgesShareSegment (edges_of ring) es) (sym (disc_edges other)) c.requires.unshared in
    let begins : BeginsIn ring (disc_of other) c.locate-first.result
    = λ p is. ap (location (disc_of other)) (sym (c.start.ensures.start p is)) ∙ sym c.locate-first.ensures.location in
    record {
      enters = IfOk-weaker c.enters.result _ _
          (λ b decides. decides ring (disc_of other) (own.rows_are.segs ∙ disc_edges ring) own.simple (disc_clean other its.simple)
          its.rows_are unshared begins)
          c.enters.ensures.enters;
      simple = (own.simple, its.simple);
    }
