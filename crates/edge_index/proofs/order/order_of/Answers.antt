use Rattle.std.proofs.Common.{ℕ, List, map, subst₂, sym, ap, ◌∙◌}
use Rattle.std.specs.List.Sorted.{IsPermutation}
use Rattle.std.proofs.lemmas.List.Sorted.{IsPermutation-map}
use Rattle.std.proofs.lemmas.Result.{IfOk-weaker}
use Rattle.edge_index.specs.declared.order.Spot.{Spot}
use Rattle.edge_index.proofs.order.order_of.Goals as goal

pub returns : goal.returns
returns c =
    let place_of = λ (spot : Spot). spot.place in
    let moved = IsPermutation-map place_of c.in_ok-spots.spots c.sort.new.self c.sort.ensures.permutation in
    record {
      places = IfOk-weaker c.places_of.result _ _ (λ places e.
          subst₂ (λ (xs ys : List ℕ). IsPermutation xs ys) c.in_ok-spots.ensures.places
          (sym (e ∙ ap (map place_of) c.as_slice.ensures.items)) moved) c.places_of.ensures.places;
    }
