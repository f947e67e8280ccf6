use Rattle.std.proofs.Common.{get_or, length, refl, ◌∙◌}
use Rattle.std.proofs.lemmas.Option.{slice_get_read}
use Rattle.area_locator.proofs.ShapedEdges.{area_edges_proper, area_edges_few}
use Rattle.area_locator.proofs.area_index.area_at.Goals as goal

pub returns : goal.returns
returns c =
    let f = c.args.v.now in
    let area = c.at.result.now in
    let item = c.at.ensures.item ∙ (λ i. get_or (c.figure.ensures.same i).areas c.args.area area) in
    let there = slice_get_read f.areas (length f.areas) c.args.area area refl c.requires.place item in
    record {
      area = there;
      proper = area_edges_proper f c.figure.ensures.shaped c.args.area area there;
      few = area_edges_few f c.figure.ensures.shaped c.args.area area there;
    }
