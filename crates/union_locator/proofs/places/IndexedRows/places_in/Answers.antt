use Rattle.std.proofs.Common.{List, subst}
use Rattle.std.proofs.lemmas.Result.{IfOk-weaker}
use Rattle.plane_exact.specs.declared.point.Seg.{Seg}
use Rattle.edge_index.specs.Segments.{ArePlacesIn}
use Rattle.union_locator.proofs.MeetingPlaces.{places_of_rows}
use Rattle.union_locator.proofs.places.IndexedRows.places_in.Goals as goal

pub returns-clause-places : goal.returns-clause-places
returns-clause-places c =
    let w = c.args.w in
    let s = c.make_index.new.self in
    let out = c.query.new.out in
    let is = s.indexed c.in-Some.index c.in-Some.is in
    IfOk-weaker c.query.result _ _ (λ _ found. places_of_rows w s.rows out (subst (λ (segs : List Seg). ArePlacesIn w segs out) is found))
    c.query.ensures.places
