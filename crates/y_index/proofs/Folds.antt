-- Folds of a relation along lists.
use Rattle.std.proofs.Common.{◌≡◌, List, [], ◌∷◌, ◌++◌, ap, sym, ◌∙◌, subst}
use Rattle.std.specs.Prelude.{fold}
use Rattle.std.specs.List.{FoldsTo}

module _ {P A : Type 0} (R : P → A → P → Type 0) where
  -- one list after another
  pub FoldsTo-append : (p : P) (xs : List A) (q : P) (ys : List A) (r : P) → FoldsTo R p xs q → FoldsTo R q ys r → FoldsTo R p (xs ++ ys) r
  FoldsTo-append p [] q ys r h k = subst (λ (s : P). FoldsTo R s ys r) (sym h) k
  FoldsTo-append p (x ∷ xs) q ys r h k = (h.0, h.1, FoldsTo-append h.0 xs q ys r h.2 k)

  -- where the relation gives the values of a function, the outcome is that function's fold
  pub FoldsTo-value : (f : P → A → P) → ((p : P) (x : A) (q : P) → R p x q → q ≡ f p x) → (p : P) (xs : List A) (q : P) →
      FoldsTo R p xs q → q ≡ fold f p xs
  FoldsTo-value f gives p [] q h = sym h
  FoldsTo-value f gives p (x ∷ xs) q h = FoldsTo-value f gives h.0 xs q h.2 ∙ ap (λ s. fold f s xs) (gives p x h.0 h.1)
