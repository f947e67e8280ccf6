-- What is told of the lines so far, line by line.
use Rattle.std.proofs.Common.{◌≡◌, ◌∙◌, ℕ, List, [], ◌∷◌, ◌++◌, flat_map, ap, sym, append-nil}
use Rattle.std.proofs.lemmas.Grind.{flat_map-append}

-- one more line is told
pub told_more : (tell : List ℕ → List ℕ) (seen : List (List ℕ)) (line old new : List ℕ) → old ≡ flat_map tell seen → new ≡ old ++ tell line
    → new ≡ flat_map tell (seen ++ line ∷ [])
told_more tell seen line old new before put =
    put ∙ ap (λ text. text ++ tell line) before
    ∙ ap (λ last. flat_map tell seen ++ last) (sym (append-nil (tell line)))
    ∙ sym (flat_map-append tell seen (line ∷ []))
