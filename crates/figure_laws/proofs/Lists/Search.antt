-- A search along a list by a decided test.
use Rattle.std.proofs.Common.{◌≡◌, ◌⊎◌, inl, inr, ℕ, zero, suc, ◌<◌}
use Rattle.std.proofs.Common.{List, [], ◌∷◌, ◌++◌, length, length-append, get_or, refl, sym, ◌∙◌, subst, arith}
use Rattle.std.specs.List.{Any, Contains}
use Rattle.std.proofs.lemmas.List.{get_or_append_left}
use Rattle.point_set.specs.declared.edge.Hand.TheVariants as hand

-- ---- a search through a list
pub record HasSome {X : Type 0} (P : X → Type 0) (xs : List X) : Type 0 where
  pub item : X
  pub there : Contains xs item
  pub holds : P item

-- an item for which P holds, or none
pub search_for : {X : Type 0} (P : X → Type 0) → ((x : X) → P x ⊎ (P x → ⊥)) → (xs : List X)
    → HasSome P xs ⊎ ((x : X) → Contains xs x → P x → ⊥)
search_for P decide [] = inr (λ x c p. let below = c.1 in omega (arith, below))
search_for {X} P decide (x ∷ xs) = by_first (decide x) (search_for P decide xs)
  where
    none : (P x → ⊥) → ((y : X) → Contains xs y → P y → ⊥) → (y : X) (i : ℕ) → i < length (x ∷ xs) → get_or (x ∷ xs) i y ≡ y → P y → ⊥
    none n rest y zero below e p = n (subst P (sym e) p)
    none n rest y (suc i) below e p = rest y (i, omega (arith, below), e) p

    by_first : P x ⊎ (P x → ⊥) → HasSome P xs ⊎ ((y : X) → Contains xs y → P y → ⊥)
        → HasSome P (x ∷ xs) ⊎ ((y : X) → Contains (x ∷ xs) y → P y → ⊥)
    by_first (inl p) rest = inl (record { item = x; there = (0, omega arith, refl); holds = p })
    by_first (inr n) (inl h) =
        let c = h.there in
        inl (record { item = h.item; there = (suc c.0, let below = c.1 in omega (arith, below), c.2); holds = h.holds })
    by_first (inr n) (inr rest) = inr (λ y c p. none n rest y c.0 c.1 c.2 p)

-- ---- some item of the one list or of the other
pub any_left : {X : Type 0} (P : X → Type 0) (xs ys : List X) → Any P xs → Any P (xs ++ ys)
any_left {X} P xs ys h =
    let below = h.2 in
    (h.0, h.1, omega (arith, below, length-append {A = X}), get_or_append_left xs ys h.1 h.0 below ∙ h.3, h.4)

pub any_right : {X : Type 0} (P : X → Type 0) (xs ys : List X) → Any P ys → Any P (xs ++ ys)
any_right P [] ys h = h
any_right P (x ∷ xs) ys h = let k = any_right P xs ys h in (suc k.0, k.1, let below = k.2 in omega (arith, below), k.3, k.4)
