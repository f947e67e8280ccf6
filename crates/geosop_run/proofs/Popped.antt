-- A list that is taken apart from its end on, while its items are put into another.
use Rattle.std.proofs.Common.{◌≡◌, ◌∙◌, List, [], ◌∷◌, ◌++◌, reverse, ap, sym, append_assoc}
use Rattle.std.proofs.lemmas.List.{reverse-append}

-- what is left and, turned, what was taken are the whole list, also when one more item is taken
pub one_popped : {X : Type 0} (left taken whole all : List X) (x : X) → whole ≡ left ++ x ∷ [] → whole ++ reverse taken ≡ all
    → left ++ reverse (taken ++ x ∷ []) ≡ all
one_popped left taken whole all x split h =
    ap (λ rest. left ++ rest) (reverse-append taken (x ∷ []))
    ∙ sym (append_assoc left (x ∷ []) (reverse taken))
    ∙ ap (λ xs. xs ++ reverse taken) (sym split) ∙ h

-- the last item of a list is the first of the turned list
pub last_first : {X : Type 0} (left whole : List X) (x : X) → whole ≡ left ++ x ∷ [] → reverse whole ≡ (x ∷ []) ++ reverse left
last_first left whole x split = ap reverse split ∙ reverse-append left (x ∷ [])
