use Rattle.std.proofs.Common.{◌++◌, ◌∷◌, [], ℕ, List, map, sym, ap, ◌∙◌}
use Rattle.std.proofs.lemmas.List.{map_push}
use Rattle.edge_index.specs.declared.order.Spot.{Spot}
use Rattle.edge_index.proofs.Lists.{range_more}
use Rattle.edge_index.proofs.order.spots_of.Goals as goal

pub loop-place-preserved : goal.loop-place-preserved
loop-place-preserved c =
    let place_of = λ (spot : Spot). spot.place in
    ap (map place_of) c.in_ok-push.ensures.ok
    ∙ map_push place_of c.loop-place.spots _
    ∙ ap (λ (places : List ℕ). places ++ c.loop-place.place ∷ []) c.loop-place.invariant
    ∙ sym (range_more c.loop-place.place)
