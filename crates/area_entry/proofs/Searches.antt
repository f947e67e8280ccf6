-- Searches along a list from its start: what is so of no item yet.
use Rattle.std.proofs.Common.{◌≡◌, ◌⊎◌, inl, inr, ℕ, ◌+◌, ◌<◌, List, length, get_or, subst, sym, ◌∙◌, ap, arith}
use Rattle.std.specs.List.{Contains}
use Rattle.std.proofs.lemmas.Bool.{cases_eq}
use Rattle.std.proofs.lemmas.List.{get_or_default}

-- no item before place i is so
abbrev pub NoneBefore : {X : Type 0} → (X → Type 0) → List X → ℕ → Type 0
NoneBefore {X} P xs i = (x : X) (j : ℕ) → j < i → get_or xs j x ≡ x → P x → ⊥

-- nor is the next one
pub none_more : {X : Type 0} (P : X → Type 0) (xs : List X) (i : ℕ) (x : X) → i < length xs → x ≡ get_or xs i x → NoneBefore P xs i
    → (P x → ⊥) → NoneBefore P xs (i + 1)
none_more {X} P xs i x below is none not y j j_below e p = go (cases_eq j i)
  where
    go : (j ≡ i) ⊎ (j ≡ i → ⊥) → ⊥
    go (inl same) =
        let here : y ≡ x = sym e ∙ ap (λ (k : ℕ). get_or xs k y) same ∙ get_or_default xs i y x below ∙ sym is in
        not (subst P here p)
    go (inr apart) = none y j (omega (arith, j_below, apart)) e p
