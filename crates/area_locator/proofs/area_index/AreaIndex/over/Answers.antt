use Rattle.std.proofs.Common.{sym, ◌∙◌, ap, subst}
use Rattle.std.specs.Prelude.{map}
use Rattle.std.specs.List.{All}
use Rattle.area_locator.proofs.ShapedEdges.{heights_are_spans}
use Rattle.area_locator.specs.Indexed.{heights_of}
use Rattle.y_index.specs.Trees.{IsSpan}
use Rattle.area_locator.proofs.area_index.AreaIndex.over.Goals as goal

pub build-requires-clause-spans : goal.build-requires-clause-spans
build-requires-clause-spans c =
    let heights = c.in_ok-spans.ensures.spans ∙ ap (map heights_of) c.as_slice.ensures.items in
    subst (All IsSpan) (sym heights) (heights_are_spans c.args.edges c.requires.proper)
