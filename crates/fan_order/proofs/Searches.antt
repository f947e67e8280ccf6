-- Items at places of a list, and the last one in a run of items that are so.
use Rattle.std.proofs.Common.{◌≡◌, ◌⊎◌, inl, inr, ℕ, zero, suc, ◌+◌, ◌<◌, ◌≤◌, Option, Some, None}
use Rattle.std.proofs.Common.{List, [], ◌∷◌, length, subst, sym, refl, ◌∙◌, arith}
use Rattle.std.specs.Prelude.{slice_get}
use Rattle.std.proofs.lemmas.Option.{slice_get_within}
use Rattle.figure_laws.proofs.Lists.Places.{some_same}
use Rattle.point_set.specs.Validity.{IsAtPlace}

-- an item at a place
pub record HasItem {X : Type 0} (xs : List X) (i : ℕ) : Type 0 where
  pub item : X
  pub is : IsAtPlace xs i item

-- stands there wherever the place is within the list
pub item_at : {X : Type 0} (xs : List X) (i : ℕ) → i < length xs → HasItem xs i
item_at [] i below = absurd (omega (arith, below))
item_at (x ∷ xs) zero below = record { item = x; is = refl }
item_at (x ∷ xs) (suc i) below = let h = item_at xs i (omega (arith, below)) in record { item = h.item; is = h.is }

-- ---- from a place on, the first item that is so and whose next one isn't
pub record LastSo {X : Type 0} (P : X → Type 0) (xs : List X) (i : ℕ) : Type 0 where
  pub place : ℕ
  pub from : i ≤ place
  pub item : X
  pub is : IsAtPlace xs place item
  pub holds : P item
  pub next : (y : X) → IsAtPlace xs (place + 1) y → P y → ⊥

-- the item, where the next one isn't
last_here : {X : Type 0} (P : X → Type 0) (xs : List X) (i : ℕ) (x : X) → IsAtPlace xs i x → P x
    → ((y : X) → IsAtPlace xs (i + 1) y → P y → ⊥) → LastSo P xs i
last_here P xs i x is holds none = record { place = i; from = omega arith; item = x; is = is; holds = holds; next = none }

-- else one from the next place on
last_after : {X : Type 0} (P : X → Type 0) → ((x : X) → P x ⊎ (P x → ⊥)) → (xs : List X) (i : ℕ) (x : X) → IsAtPlace xs i x → P x
    → ((y : X) → IsAtPlace xs (i + 1) y → P y → LastSo P xs (i + 1)) → LastSo P xs i
last_after {X} P decide xs i x is holds rest = by_next (slice_get xs (i + 1)) refl
  where
    by_item : (y : X) → slice_get xs (i + 1) ≡ Some y → P y ⊎ (P y → ⊥) → LastSo P xs i
    by_item y e (inl so) =
        let h = rest y e so in
        record { place = h.place; from = let f = h.from in omega (arith, f); item = h.item; is = h.is; holds = h.holds; next = h.next }
    by_item y e (inr not) = last_here P xs i x is holds (λ z z_is so. not (subst P (some_same (sym z_is ∙ e)) so))

    by_next : (o : Option X) → slice_get xs (i + 1) ≡ o → LastSo P xs i
    by_next None e = last_here P xs i x is holds (λ y y_is _. let z = sym e ∙ y_is in cc)
    by_next (Some y) e = by_item y e (decide y)

-- at most d places on
last_within : {X : Type 0} (P : X → Type 0) → ((x : X) → P x ⊎ (P x → ⊥)) → (xs : List X) (d i : ℕ) (x : X) → length xs ≤ i + d
    → IsAtPlace xs i x → P x → LastSo P xs i
last_within P decide xs zero i x short is holds = absurd (let w = slice_get_within xs i x is in omega (arith, w, short))
last_within P decide xs (suc d) i x short is holds =
    last_after P decide xs i x is holds (λ y y_is so. last_within P decide xs d (i + 1) y (omega (arith, short)) y_is so)

-- so there is one wherever an item is so
pub last_so : {X : Type 0} (P : X → Type 0) → ((x : X) → P x ⊎ (P x → ⊥)) → (xs : List X) (i : ℕ) (x : X) → IsAtPlace xs i x → P x
    → LastSo P xs i
last_so P decide xs i x is holds = last_within P decide xs (length xs) i x (omega arith) is holds
