use Rattle.std.proofs.Common.{◌++◌, map, List, [], ◌∷◌, ap, sym, ◌∙◌, arith}
use Rattle.std.specs.List.{range_with_len}
use Rattle.std.proofs.lemmas.List.FromFn.{map-range_with_len_more}
use Rattle.plane_exact.specs.declared.point.Pt.{Pt}
use Rattle.sample_figures.specs.Samples.{position_at}
use Rattle.sample_figures.proofs.parts.points_in_row.Goals as goal

pub loop-x-preserved : goal.loop-x-preserved
loop-x-preserved c =
    let x = c.loop-x.x in
    let so_far = map (λ i. position_at i 0) (range_with_len 0 x) in (
      c.in_ok-push.ensures.ok ∙ ap (λ (points : List Pt). points ++ c.position.result ∷ []) c.loop-x.invariant.0
          ∙ ap (λ (p : Pt). so_far ++ p ∷ []) c.position.ensures.place
          ∙ sym (map-range_with_len_more (λ i. position_at i 0) 0 x x (omega arith)),
      c.loop-x.invariant.1,
      c.loop-x.invariant.2,
    )
