use Rattle.std.proofs.Common.{List, subst}
use Rattle.std.specs.Prelude.{IfSome, ◌≡◌}
use Rattle.std.proofs.lemmas.Result.{IfOk-weaker}
use Rattle.plane_exact.specs.declared.point.Seg.{Seg}
use Rattle.edge_index.specs.Segments.{ArePlacesIn}
use Rattle.union_locator.specs.Plains.{segs_of}
use Rattle.union_locator.proofs.Laws.{places_of_rows}
use Rattle.relate_prep.proofs.edges.places_in.Goals as goal

pub returns-in-Some : goal.returns-in-Some
returns-in-Some c =
    let w = c.args.w in
    let rows = c.args.rows.now in
    let out = c.query.new.out in
    let is : c.in-Some.index.now.segs ≡ segs_of rows = subst
    (λ z. IfSome z (λ index. index.now.segs ≡ segs_of rows)) c.in-Some.is c.requires.index in
    record {
      places =
          IfOk-weaker c.query.result _ _
          (λ _ found. places_of_rows w rows out (subst (λ (segs : List Seg). ArePlacesIn w segs out) is found))
          c.query.ensures.places;
    }
