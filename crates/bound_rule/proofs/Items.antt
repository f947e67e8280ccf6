-- An item that a loop reads of a list that is another one.
use Rattle.std.proofs.Common.{◌≡◌, ◌∙◌, ◌<◌, ℕ, List, length, get_or, ap, subst}
use Rattle.std.proofs.lemmas.List.{get_or_default}

module _ {X : Type 0} (items xs : List X) (i : ℕ) (same : items ≡ xs) (below : i < length items) where
  -- it is the one at its place in the other list
  pub item_there : (x : X) → x ≡ get_or items i x → (i < length xs) × (x ≡ get_or xs i x)
  item_there x is = (subst (λ (ys : List X). i < length ys) same below, is ∙ ap (λ (ys : List X). get_or ys i x) same)

  -- by whatever default it is read
  pub read_there : (d : X) → (i < length xs) × (get_or items i d ≡ get_or xs i (get_or items i d))
  read_there d = item_there (get_or items i d) (get_or_default items i d (get_or items i d) below)
