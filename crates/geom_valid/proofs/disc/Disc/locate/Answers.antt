use Rattle.std.proofs.Common.{List, sym, ◌∙◌, subst, ap}
use Rattle.std.specs.Prelude.{Option}
use Rattle.plane_exact.specs.NodePoints.{point_at}
use Rattle.plane_exact.specs.declared.point.Pt.{Pt}
use Rattle.plane_exact.specs.declared.point.Seg.{Seg}
use Rattle.point_set.specs.Location.{location}
use Rattle.valid_laws.specs.Entering.{disc_of}
use Rattle.valid_laws.proofs.Clauses.OverAllPoints.{disc_edges, disc_location}
use Rattle.geom_valid.specs.Grounds.{AreHeightsOf}
use Rattle.geom_valid.proofs.AloneValid.{disc_by_count}
use Rattle.geom_valid.proofs.disc.Disc.locate.Goals as goal

pub returns-in-Some : goal.returns-in-Some
returns-in-Some c =
    let ring = c.self.inside.ring.now in
    let p = point_at c.args.n.now in
    let heights = subst (λ (h : Option (List Seg)). AreHeightsOf c.self.inside.rows h) c.in-Some.is c.self.invariant.heights_are in
    record {
      location = c.locate.ensures.parity
          ∙ disc_by_count ring c.in-Some.index (heights ∙ c.self.invariant.disc.rows_are.segs ∙ disc_edges ring) p
          ∙ ap (λ (r : List Pt). location (disc_of r) p) c.self.view_is;
    }

pub returns-in-None : goal.returns-in-None
returns-in-None c =
    let p = point_at c.args.n.now in
    record {
      location = c.ring_locate.ensures.location ∙ sym (disc_location p c.self.inside.ring.now)
          ∙ ap (λ (r : List Pt). location (disc_of r) p) c.self.view_is;
    }
