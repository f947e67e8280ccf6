-- What holds of the items of a list by their places: lists put together, mapped and filtered.
use Rattle.std.proofs.Common.{◌≡◌, ◌⊎◌, inl, inr, ℕ, zero, suc, List, [], ◌∷◌, ◌++◌, map, refl, sym, subst}
use Rattle.figure_laws.proofs.Lists.Places.{some_same}
use Rattle.point_set.specs.Validity.{IsAtPlace}
use Rattle.figure_laws.proofs.Lists.Least.{SomeItem, by_place}

-- each item of a list is so
abbrev pub Each : {X : Type 0} (IsSo : X → Type 0) → List X → Type 0
Each {X} IsSo items = (place : ℕ) (item : X) → IsAtPlace items place item → IsSo item

-- in two lists, one after the other
pub each_both : {X : Type 0} (IsSo : X → Type 0) (xs ys : List X) → Each IsSo xs → Each IsSo ys → Each IsSo (xs ++ ys)
each_both IsSo [] ys f g = g
each_both IsSo (x ∷ xs) ys f g = by_place x (xs ++ ys) IsSo (f 0 x refl) (each_both IsSo xs ys (λ place item e. f (suc place) item e) g)

-- in the first of the two
pub each_left : {X : Type 0} (IsSo : X → Type 0) (xs ys : List X) → Each IsSo (xs ++ ys) → Each IsSo xs
each_left IsSo [] ys f = λ place item e. cc
each_left IsSo (x ∷ xs) ys f = by_place x xs IsSo (f 0 x refl) (each_left IsSo xs ys (λ place item e. f (suc place) item e))

-- in the second
pub each_right : {X : Type 0} (IsSo : X → Type 0) (xs ys : List X) → Each IsSo (xs ++ ys) → Each IsSo ys
each_right IsSo [] ys f = f
each_right IsSo (x ∷ xs) ys f = each_right IsSo xs ys (λ place item e. f (suc place) item e)

-- in the list of the values of a function
pub each_map : {X Y : Type 0} (IsSo : Y → Type 0) (f : X → Y) (xs : List X) → Each (λ x. IsSo (f x)) xs → Each IsSo (map f xs)
each_map IsSo f [] h = λ place item e. cc
each_map IsSo f (x ∷ xs) h = by_place (f x) (map f xs) IsSo (h 0 x refl) (each_map IsSo f xs (λ place item e. h (suc place) item e))

-- and back
pub each_unmap : {X Y : Type 0} (IsSo : Y → Type 0) (f : X → Y) (xs : List X) → Each IsSo (map f xs) → Each (λ x. IsSo (f x)) xs
each_unmap IsSo f [] h = λ place item e. cc
each_unmap IsSo f (x ∷ xs) h =
    by_place x xs (λ x. IsSo (f x)) (h 0 (f x) refl) (each_unmap IsSo f xs (λ place item e. h (suc place) item e))

-- ---- some item
-- a place of the first of two lists is one of both
pub place_left : {X : Type 0} (xs ys : List X) (place : ℕ) (x : X) → IsAtPlace xs place x → IsAtPlace (xs ++ ys) place x
place_left [] ys place x e = cc
place_left (y ∷ xs) ys zero x e = e
place_left (y ∷ xs) ys (suc place) x e = place_left xs ys place x e

-- in the first of two lists, so in both
pub some_left : {X : Type 0} (IsSo : X → Type 0) (xs ys : List X) → SomeItem IsSo xs → SomeItem IsSo (xs ++ ys)
some_left IsSo xs ys h = record { place = h.place; item = h.item; item_is = place_left xs ys h.place h.item h.item_is; is_so = h.is_so }

-- behind a first item
pub some_later : {X : Type 0} {IsSo : X → Type 0} (x : X) {xs : List X} → SomeItem IsSo xs → SomeItem IsSo (x ∷ xs)
some_later x h = record { place = suc h.place; item = h.item; item_is = h.item_is; is_so = h.is_so }

-- in the second of two lists, so in both
pub some_right : {X : Type 0} (IsSo : X → Type 0) (xs ys : List X) → SomeItem IsSo ys → SomeItem IsSo (xs ++ ys)
some_right IsSo [] ys h = h
some_right IsSo (x ∷ xs) ys h = some_later x (some_right IsSo xs ys h)

-- at a place
map_at : {X Y : Type 0} (IsSo : Y → Type 0) (f : X → Y) (xs : List X) (place : ℕ) (x : X) → IsAtPlace xs place x → IsSo (f x)
    → SomeItem IsSo (map f xs)
map_at IsSo f [] place x e h = cc
map_at IsSo f (y ∷ ys) zero x e h = record { place = 0; item = f y; item_is = refl; is_so = subst (λ z. IsSo (f z)) (sym (some_same e)) h }
map_at IsSo f (y ∷ ys) (suc place) x e h = some_later (f y) (map_at IsSo f ys place x e h)

-- in the list of the values of a function
pub some_map : {X Y : Type 0} (IsSo : Y → Type 0) (f : X → Y) (xs : List X) → SomeItem (λ x. IsSo (f x)) xs → SomeItem IsSo (map f xs)
some_map IsSo f xs h = map_at IsSo f xs h.place h.item h.item_is h.is_so

-- ---- the items that are so
-- these are the items of a list that are so
pub record AreKept {X : Type 0} (IsSo : X → Type 0) (items kept : List X) : Type 0 where
  pub only : Each IsSo kept
  pub whole : (place : ℕ) (item : X) → IsAtPlace items place item → IsSo item → SomeItem (λ other. other ≡ item) kept

-- an item that is so is kept
keep : {X : Type 0} (IsSo : X → Type 0) (x : X) (xs ys : List X) → IsSo x → AreKept IsSo xs ys → AreKept IsSo (x ∷ xs) (x ∷ ys)
keep IsSo x xs ys h k = record {
  only = by_place x ys IsSo h k.only;
  whole = by_place x xs (λ item. IsSo item → SomeItem (λ other. other ≡ item) (x ∷ ys))
      (λ g. record { place = 0; item = x; item_is = refl; is_so = refl }) (λ place item e g. some_later x (k.whole place item e g));
}

-- one that isn't so is left out
drop : {X : Type 0} (IsSo : X → Type 0) (x : X) (xs ys : List X) → ¬ IsSo x → AreKept IsSo xs ys → AreKept IsSo (x ∷ xs) ys
drop IsSo x xs ys n k = record {
  only = k.only;
  whole = by_place x xs (λ item. IsSo item → SomeItem (λ other. other ≡ item) ys) (λ g. absurd (n g)) k.whole;
}

-- there is the list of the items that are so
pub filtered : {X : Type 0} (IsSo : X → Type 0) → ((x : X) → IsSo x ⊎ (¬ IsSo x)) → (items : List X) → (kept : List X)
    × AreKept IsSo items kept
filtered {X = X} IsSo decide [] = ([], record { only = λ place item e. cc; whole = λ place item e h. cc })
filtered {X = X} IsSo decide (x ∷ xs) = go (decide x) (filtered IsSo decide xs)
  where
    go : IsSo x ⊎ (¬ IsSo x) → ((kept : List X) × AreKept IsSo xs kept) → (kept : List X) × AreKept IsSo (x ∷ xs) kept
    go (inl h) (ys, k) = (x ∷ ys, keep IsSo x xs ys h k)
    go (inr n) (ys, k) = (ys, drop IsSo x xs ys n k)
