-- Lists that workers made, joined one after another.
use Rattle.std.proofs.Common.{List, [], ◌∷◌, ◌++◌, refl, sym, ap, ◌∙◌}
use Rattle.std.specs.Prelude.{Result, Ok}
use Rattle.std.proofs.lemmas.List.{map-append, flat_map_more}
use Rattle.pair_batch.specs.Shares.{AreJoined}

-- at first none is joined
pub none_joined : {T E : Type 0} → AreJoined {T = T} {E = E} [] []
none_joined = record { lists = []; made_is = refl; all_is = refl }

-- with one more list
pub one_more_joined : {T E : Type 0} (made : List (Result (List T) E)) (all list : List T) → AreJoined made all
    → AreJoined (made ++ Ok list ∷ []) (all ++ list)
one_more_joined made all list are = record {
  lists = are.lists ++ list ∷ [];
  made_is = ap (λ xs. xs ++ Ok list ∷ []) are.made_is ∙ sym (map-append Ok are.lists (list ∷ []));
  all_is = ap (λ xs. xs ++ list) are.all_is ∙ flat_map_more (λ xs. xs) [] are.lists list;
}
