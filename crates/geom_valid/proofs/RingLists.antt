-- Items of lists by their places, and the rings of an area one by one.
use Rattle.std.proofs.Common.{◌≡◌, ◌⊎◌, inl, inr, ℕ, zero, suc, ◌+◌, ◌<◌, ◌≤◌, Bool, List, length, refl, sym, ◌∙◌, subst, arith}
use Rattle.std.specs.Prelude.{slice_get, IsTrue, ◌↔◌}
use Rattle.std.specs.List.{All, Any}
use Rattle.std.proofs.lemmas.Bool.{cases_eq}
use Rattle.std.proofs.lemmas.Option.{slice_get_read, slice_get_within, get_or_from_slice_get}
use Rattle.plane_exact.specs.declared.point.Pt.{Pt}
use Rattle.point_set.specs.declared.figure.Area.{Area}
use Rattle.point_set.specs.Location.{rings_of}
use Rattle.point_set.specs.Shape.{IsRingShaped, IsAreaShaped}
use Rattle.point_set.specs.Validity.{IsAtPlace, SomeRing}
use Rattle.figure_laws.proofs.Lists.Places.{some_same, all_at}
use Rattle.ring_sides.proofs.Laws.{all_from_places}

-- ---- items by their places
-- no item before a place is so
abbrev pub NoneBefore : {X : Type 0} (IsSo : X → Type 0) → List X → ℕ → Type 0
NoneBefore {X} IsSo xs i = (k : ℕ) (x : X) → k < i → IsAtPlace xs k x → ¬ IsSo x

pub none_first : {X : Type 0} (IsSo : X → Type 0) (xs : List X) → NoneBefore IsSo xs 0
none_first IsSo xs k x below is = absurd (omega (arith, below))

pub none_on : {X : Type 0} (IsSo : X → Type 0) (xs : List X) (i : ℕ) (item : X) → NoneBefore IsSo xs i → IsAtPlace xs i item → ¬ IsSo item
    → NoneBefore IsSo xs (i + 1)
none_on {X} IsSo xs i item before item_is not k x below is = by_place (cases_eq k i)
  where
    by_place : (k ≡ i) ⊎ (k ≡ i → ⊥) → ¬ IsSo x
    by_place (inl same) = subst (λ y. ¬ IsSo y) (some_same (sym item_is ∙ (λ j. slice_get xs (sym same j)) ∙ is)) not
    by_place (inr apart) = before k x (omega (arith, below, apart)) is

-- at the end none is so
pub none_at_last : {X : Type 0} (IsSo : X → Type 0) (xs : List X) (i : ℕ) → NoneBefore IsSo xs i → length xs ≤ i
    → (k : ℕ) (x : X) → IsAtPlace xs k x → ¬ IsSo x
none_at_last IsSo xs i before past k x is = before k x (omega (arith, past, slice_get_within xs k x is)) is

-- every item before a place is so
abbrev pub AllBefore : {X : Type 0} (IsSo : X → Type 0) → List X → ℕ → Type 0
AllBefore {X} IsSo xs i = (k : ℕ) (x : X) → k < i → IsAtPlace xs k x → IsSo x

pub all_first : {X : Type 0} (IsSo : X → Type 0) (xs : List X) → AllBefore IsSo xs 0
all_first IsSo xs k x below is = absurd (omega (arith, below))

-- and the next one too, of which all may be known in another way by then
pub all_on :
    {X : Type 0} (IsSo IsSoNow : X → Type 0) → ((x : X) → IsSo x → IsSoNow x) → (xs : List X) (i : ℕ) (item : X) → AllBefore IsSo xs i
    → IsAtPlace xs i item → IsSoNow item → AllBefore IsSoNow xs (i + 1)
all_on {X} IsSo IsSoNow stays xs i item before item_is so k x below is = by_place (cases_eq k i)
  where
    by_place : (k ≡ i) ⊎ (k ≡ i → ⊥) → IsSoNow x
    by_place (inl same) = subst IsSoNow (some_same (sym item_is ∙ (λ j. slice_get xs (sym same j)) ∙ is)) so
    by_place (inr apart) = stays x (before k x (omega (arith, below, apart)) is)

-- at the end all are so
pub all_at_last : {X : Type 0} (IsSo : X → Type 0) (xs : List X) (i : ℕ) → AllBefore IsSo xs i → length xs ≤ i → All IsSo xs
all_at_last IsSo xs i before past =
    all_from_places IsSo xs (λ k x is. before k x (omega (arith, past, slice_get_within xs k x is)) is)

-- ---- the rings of an area
-- none of the rings is so
pub no_ring : (IsSo : List Pt → Type 0) (area : Area) → ¬ SomeRing IsSo area → All (λ ring. ¬ IsSo ring) (rings_of area)
no_ring IsSo area none =
    all_from_places (λ ring. ¬ IsSo ring) (rings_of area)
    (λ i ring is so. none (record { place = i; ring = ring; ring_is = is; is_so = so }))

-- where neither the shell nor a hole is so
pub no_ring_from : (IsSo : List Pt → Type 0) (area : Area) → ¬ IsSo area.shell
    → ((i : ℕ) (hole : List Pt) → IsAtPlace area.holes i hole → ¬ IsSo hole) → ¬ SomeRing IsSo area
no_ring_from IsSo area shell holes h = go h.place h.ring h.ring_is h.is_so
  where
    go : (place : ℕ) (ring : List Pt) → IsAtPlace (rings_of area) place ring → ¬ IsSo ring
    go zero ring is so = shell (subst IsSo (sym (some_same is)) so)
    go (suc place) ring is so = holes place ring is so

pub ring_of_shell : (IsSo : List Pt → Type 0) (area : Area) → IsSo area.shell → SomeRing IsSo area
ring_of_shell IsSo area so = record { place = 0; ring = area.shell; ring_is = refl; is_so = so }

pub ring_of_hole : (IsSo : List Pt → Type 0) (area : Area) (i : ℕ) (hole : List Pt) → IsAtPlace area.holes i hole → IsSo hole
    → SomeRing IsSo area
ring_of_hole IsSo area i hole is so = record { place = suc i; ring = hole; ring_is = is; is_so = so }

-- the test of the holes decides where the shell isn't so
pub ring_by_holes : (IsSo : List Pt → Type 0) (area : Area) (b : Bool) → ¬ IsSo area.shell → IsTrue b ↔ Any IsSo area.holes
    → IsTrue b ↔ SomeRing IsSo area
ring_by_holes IsSo area b shell tells =
    (λ true. from_any (tells.0 true), λ some. tells.1 (to_any some.place some.ring some.ring_is some.is_so))
  where
    from_any : Any IsSo area.holes → SomeRing IsSo area
    from_any any =
        ring_of_hole IsSo area any.0 any.1 (slice_get_read area.holes (length area.holes) any.0 any.1 refl any.2 (sym any.3)) any.4

    to_any : (place : ℕ) (ring : List Pt) → IsAtPlace (rings_of area) place ring → IsSo ring → Any IsSo area.holes
    to_any zero ring is so = absurd (shell (subst IsSo (sym (some_same is)) so))
    to_any (suc place) ring is so =
        (place, ring, slice_get_within area.holes place ring is, get_or_from_slice_get area.holes place ring ring is, so)

-- each ring has a ring's shape
pub ring_shaped :
    (area : Area) → IsAreaShaped area → (place : ℕ) (ring : List Pt) → IsAtPlace (rings_of area) place ring → IsRingShaped ring
ring_shaped area shaped zero ring is = subst IsRingShaped (some_same is) shaped.shell
ring_shaped area shaped (suc place) ring is = all_at IsRingShaped area.holes place ring shaped.holes is
