use Rattle.std.proofs.Common.{◌++◌, map, List, [], ◌∷◌, ap, sym, ◌∙◌, arith}
use Rattle.std.specs.List.{range_with_len}
use Rattle.std.proofs.lemmas.List.FromFn.{map-range_with_len_more}
use Rattle.point_set.specs.declared.figure.Area.{Area}
use Rattle.sample_figures.specs.Samples.{square_at}
use Rattle.sample_figures.proofs.parts.squares_and_line.Goals as goal

pub loop-place-preserved : goal.loop-place-preserved
loop-place-preserved c =
    let place = c.loop-place.place in
    let so_far = map square_at (range_with_len 0 place) in (
      c.loop-place.invariant.0,
      c.loop-place.invariant.1,
      c.in_ok-push-4.ensures.ok ∙ ap (λ (areas : List Area). areas ++ c.in_ok-square.field-0 ∷ []) c.loop-place.invariant.2
          ∙ ap (λ (area : Area). so_far ++ area ∷ []) c.in_ok-square.ensures.square
          ∙ sym (map-range_with_len_more square_at 0 place place (omega arith)),
    )
