use Rattle.std.proofs.Common.{◌≡◌, ◌<◌, ◌∙◌, ap, length, refl, subst, sym, arith}
use Rattle.std.proofs.lemmas.Option.{slice_get_read}
use Rattle.plane_exact.specs.NodePoints.{point_at}
use Rattle.point_set.specs.declared.figure.Area.{Area}
use Rattle.point_set.specs.declared.figure.Figure.{Figure}
use Rattle.point_set.specs.Location.{location}
use Rattle.point_set.specs.Validity.{IsAtPlace}
use Rattle.figure_laws.proofs.Lists.Places.{read_at, some_same}
use Rattle.relate_prep.specs.Cells.{area_edges, edges_of_some}
use Rattle.relate_prep.specs.Sessions.{SeenAreas}
use Rattle.relate_prep.proofs.AskingCells.{cells_count}
use Rattle.relate_prep.proofs.areas.AskedAreas.loc_near.Goals as goal

pub returns-in-Some : goal.returns-in-Some
returns-in-Some c = record {
  location = λ area at.
      let f = c.self.inside.valid.now in
      let k = c.args.place in
      let cells = c.self.inside.asked.now in
      let same : f ≡ c.args.self.now.figure = ap (λ (seen : SeenAreas). seen.figure) c.self.view_is in
      let at_f : IsAtPlace f.areas k area = subst (λ (z : Figure). IsAtPlace z.areas k area) (sym same) at in
      let count = cells_count f c.self.invariant.names cells c.self.invariant.cells in
      let place : k < length f.areas = subst (λ (z : Figure). k < length z.areas) (sym same) c.requires.place in
      let cell = c.index-asked-place.result in
      let at_c : IsAtPlace cells k cell =
      slice_get_read cells (length cells) k cell refl (omega (arith, count, place)) c.index-asked-place.is in
      let origin = c.self.invariant.cells.origins k cell at_c in
      c.locate.ensures.location area
      (c.law_areas_of_valid_figures_are_valid.ensures.alone f c.self.invariant.valid k area at_f)
      (sym (ap edges_of_some at_f) ∙ sym (c.in-Some.ensures.edges (area_edges f k) origin));
}

pub returns-in-None : goal.returns-in-None
returns-in-None c = record {
  location = λ area at.
      let f = c.self.inside.valid.now in
      let k = c.args.place in
      let same : f ≡ c.args.self.now.figure = ap (λ (seen : SeenAreas). seen.figure) c.self.view_is in
      let at_f : IsAtPlace f.areas k area = subst (λ (z : Figure). IsAtPlace z.areas k area) (sym same) at in
      let place : k < length f.areas = subst (λ (z : Figure). k < length z.areas) (sym same) c.requires.place in
      let read = c.figure.result.now in
      let here =
      read_at read.areas f.areas k c.at.result.now (ap (λ (z : Figure). z.areas) c.figure.ensures.same)
      (subst (λ (z : Figure). k < length z.areas) (sym c.figure.ensures.same) place) c.at.ensures.item in
      c.locate_plain.ensures.location ∙ ap (λ (z : Area). location z (point_at c.args.n.now)) (some_same (sym here ∙ at_f));
}
