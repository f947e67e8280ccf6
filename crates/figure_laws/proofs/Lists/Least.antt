-- The least of a list, under an order on the good ones of its items.
use Rattle.std.proofs.Common.{◌⊎◌, inl, inr, ℕ, zero, suc, List, [], ◌∷◌, refl, subst}
use Rattle.figure_laws.proofs.Lists.Places.{some_same}
use Rattle.point_set.specs.Validity.{IsAtPlace}

-- ---- items by their places
-- some item of a list is so
pub record SomeItem {X : Type 0} (IsSo : X → Type 0) (items : List X) : Type 0 where
  pub place : ℕ
  pub item : X
  pub item_is : IsAtPlace items place item
  pub is_so : IsSo item

-- no item of a list is so
abbrev pub NoItem : {X : Type 0} (IsSo : X → Type 0) → List X → Type 0
NoItem {X} IsSo items = (place : ℕ) (item : X) → IsAtPlace items place item → ¬ IsSo item

-- where an item is the first of a list, or of those behind
pub by_place : {X : Type 0} (x : X) (xs : List X) (P : X → Type 0) → P x
    → ((place : ℕ) (item : X) → IsAtPlace xs place item → P item)
    → (place : ℕ) (item : X) → IsAtPlace (x ∷ xs) place item → P item
by_place x xs P here there zero item e = subst P (some_same e) here
by_place x xs P here there (suc place) item e = there place item e

-- what each item decides, the list decides
pub search : {X : Type 0} (IsSo : X → Type 0) → ((x : X) → IsSo x ⊎ (¬ IsSo x)) → (items : List X) → SomeItem IsSo items ⊎ NoItem IsSo items
search IsSo decide [] = inr (λ place item e h. cc)
search IsSo decide (x ∷ xs) = go (decide x) (search IsSo decide xs)
  where
    go : IsSo x ⊎ (¬ IsSo x) → SomeItem IsSo xs ⊎ NoItem IsSo xs → SomeItem IsSo (x ∷ xs) ⊎ NoItem IsSo (x ∷ xs)
    go (inl h) rest = inl (record { place = 0; item = x; item_is = refl; is_so = h })
    go (inr n) (inl s) = inl (record { place = suc s.place; item = s.item; item_is = s.item_is; is_so = s.is_so })
    go (inr n) (inr none) = inr (by_place x xs (λ item. ¬ IsSo item) n none)

-- so it is decided whether some item is so
pub some_or_not : {X : Type 0} (IsSo : X → Type 0) → ((x : X) → IsSo x ⊎ (¬ IsSo x)) → (items : List X)
    → SomeItem IsSo items ⊎ (¬ SomeItem IsSo items)
some_or_not IsSo decide items = by_search (search IsSo decide items)
  where
    by_search : SomeItem IsSo items ⊎ NoItem IsSo items → SomeItem IsSo items ⊎ (¬ SomeItem IsSo items)
    by_search (inl some) = inl some
    by_search (inr none) = inr (λ some. none some.place some.item some.item_is some.is_so)

-- ---- the least
module _ {X : Type 0} (Good : X → Type 0) (Before : X → X → Type 0) (decide : (x : X) → Good x ⊎ (¬ Good x))
    (either : (x y : X) → Good x → Good y → Before x y ⊎ Before y x)
    (through : (x y z : X) → Good x → Good y → Good z → Before x y → Before y z → Before x z) where
  -- a good item of the list that comes before each good one
  pub record Least (items : List X) : Type 0 where
    pub least : X
    pub place : ℕ
    pub least_is : IsAtPlace items place least
    pub good : Good least
    pub before : (place : ℕ) (item : X) → IsAtPlace items place item → Good item → Before least item

  -- each good item comes before itself
  itself : (x : X) → Good x → Before x x
  itself x g = go (either x x g g)
    where
      go : Before x x ⊎ Before x x → Before x x
      go (inl h) = h
      go (inr h) = h

  -- there is a least one, or no good one
  pub least_of : (items : List X) → Least items ⊎ NoItem Good items
  least_of [] = inr (λ place item e h. cc)
  least_of (x ∷ xs) = go (decide x) (least_of xs)
    where
      kept : (l : Least xs) → (Good x → Before l.least x) → Least (x ∷ xs)
      kept l f = record {
        least = l.least;
        place = suc l.place;
        least_is = l.least_is;
        good = l.good;
        before = by_place x xs (λ item. Good item → Before l.least item) f l.before;
      }

      moved : Good x → ((place : ℕ) (item : X) → IsAtPlace xs place item → Good item → Before x item) → Least (x ∷ xs)
      moved g f = record {
        least = x;
        place = 0;
        least_is = refl;
        good = g;
        before = by_place x xs (λ item. Good item → Before x item) (itself x) f;
      }

      by_either : (g : Good x) (l : Least xs) → Before x l.least ⊎ Before l.least x → Least (x ∷ xs)
      by_either g l (inl h) = moved g (λ place item e k. through x l.least item g l.good k h (l.before place item e k))
      by_either g l (inr h) = kept l (λ k. h)

      go : Good x ⊎ (¬ Good x) → Least xs ⊎ NoItem Good xs → Least (x ∷ xs) ⊎ NoItem Good (x ∷ xs)
      go (inl g) (inl l) = inl (by_either g l (either x l.least g l.good))
      go (inl g) (inr none) = inl (moved g (λ place item e k. absurd (none place item e k)))
      go (inr n) (inl l) = inl (kept l (λ g. absurd (n g)))
      go (inr n) (inr none) = inr (by_place x xs (λ item. ¬ Good item) n none)
