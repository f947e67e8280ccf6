-- The item of a step of a loop over a list.
use Rattle.std.proofs.Common.{◌≡◌, ◌↔◌, ℕ, ◌+◌, ◌<◌, Bool, true, false, IsTrue, List, length, get_or, refl, sym, subst}
use Rattle.std.specs.List.{All, Any}
use Rattle.std.proofs.lemmas.List.{get_or_default}
use Rattle.std.proofs.lemmas.Option.{slice_get-get_or}
use Rattle.point_set.specs.Validity.{IsAtPlace}
use Rattle.area_entry.proofs.Bends.{not_so}
use Rattle.area_entry.proofs.Searches.{NoneBefore, none_more}

module _ {X : Type 0} {items : List X} (xs : List X) (same : items ≡ xs) (i : ℕ) (d : X) (below : i < length items) where
  -- it is the one at its place
  item_there : IsAtPlace xs i (get_or items i d)
  item_there = subst (λ (ys : List X). IsAtPlace ys i (get_or items i d)) same (slice_get-get_or items i d below)

  -- by whatever default it is read
  pub item_read : (e : X) → get_or xs i e ≡ get_or items i d
  item_read e = subst (λ (ys : List X). get_or ys i e ≡ get_or items i d) same (get_or_default items i e d below)

  -- what holds of all holds of it
  pub item_of_all : (P : X → Type 0) → All P xs → P (get_or items i d)
  item_of_all P all = subst (λ (ys : List X). All P ys) (sym same) all i d below

  -- where the test of it says so, some item is so
  pub some_found : (P : X → Type 0) (b : Bool) → (IsAtPlace xs i (get_or items i d) → (IsTrue b ↔ P (get_or items i d))) → IsTrue b
      → IsTrue true ↔ Any P xs
  some_found P b decides so = (
    λ _. subst (λ (ys : List X). Any P ys) same
        (i, get_or items i d, below, get_or_default items i (get_or items i d) d below, (decides item_there).0 so),
    λ _. refl,
  )

  -- and where it doesn't, none is so up to it
  pub none_found : (P : X → Type 0) (b : Bool) → (IsAtPlace xs i (get_or items i d) → (IsTrue b ↔ P (get_or items i d))) → b ≡ false
      → NoneBefore P xs i → NoneBefore P xs (i + 1)
  none_found P b decides not before =
      subst (λ (ys : List X). NoneBefore P ys (i + 1)) same
      (none_more P items i (get_or items i d) below (get_or_default items i d (get_or items i d) below)
      (subst (λ (ys : List X). NoneBefore P ys i) (sym same) before) (not_so b (decides item_there) not))
