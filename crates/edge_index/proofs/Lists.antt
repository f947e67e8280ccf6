-- Lists: what a filter and a map contain, lists of different numbers, and counts over a range.
use Rattle.std.proofs.Common.{◌≡◌, ◌≢◌, ℕ, zero, suc, ◌+◌, ◌<◌, Bool, true, false, cond, List, [], ◌∷◌, ◌++◌, map, length, sym, ◌∙◌, ap}
use Rattle.std.proofs.Common.{subst, arith}
use Rattle.std.specs.Prelude.{nat_eq, Contains, All}
use Rattle.std.specs.List.{filter, AllPairs, range_with_len}
use Rattle.std.specs.List.Sorted.{IsPermutation, IsStrictlyIncreasing, IsSorted}
use Rattle.std.specs.Ordering.{nat_cmp}
use Rattle.std.proofs.lemmas.Bool.Decides.{Decides-eqb, nat_tests}
use Rattle.std.proofs.lemmas.List.{length-map, get_or-map, map-id}
use Rattle.std.proofs.lemmas.List.FromFn.{length-range_with_len, get_or-range_with_len, map-range_with_len_more}
use Rattle.std.proofs.lemmas.List.Sorted.{IsNonDecreasingBy-from_sort}
use Rattle.std.proofs.lemmas.Map.Keys.{IsDistinct-IsPermutation, IsStrictlyIncreasing-from_distinct}
use Rattle.std.proofs.lemmas.Map.Made.{AllPairs-from_IsDistinct, IsDistinct-from_AllPairs}

-- a filter contains what passes
pub Contains-filter : {X : Type 0} (test : X → Bool) (xs : List X) (x : X) → Contains xs x → test x ≡ true → Contains (filter test xs) x
Contains-filter test [] x (k, within, is) pass = absurd (omega arith)
Contains-filter test (y ∷ ys) x (zero, within, is) pass =
    subst (λ (b : Bool). Contains (cond b (y ∷ filter test ys) (filter test ys)) x) (sym (ap test is ∙ pass)) (0, omega arith, is)
Contains-filter test (y ∷ ys) x (suc k, within, is) pass = behind (test y) (Contains-filter test ys x (k, omega arith, is) pass)
  where
    behind : (b : Bool) → Contains (filter test ys) x → Contains (cond b (y ∷ filter test ys) (filter test ys)) x
    behind true c = (suc c.0, omega (arith, c.1), c.2)
    behind false c = c

-- a map contains the images
pub Contains-map : {X Y : Type 0} (f : X → Y) (xs : List X) (x : X) → Contains xs x → Contains (map f xs) (f x)
Contains-map f xs x (k, within, is) = (k, omega (arith, length-map xs f), get_or-map f xs k x (f x) within ∙ ap f is)

-- an element of a list that has one
element : {X : Type 0} (xs : List X) → 0 < length xs → X
element [] h = absurd (omega arith)
element (x ∷ xs) h = x

-- the images of different elements are different, where f tells apart those of which P holds
pub AllPairs-map :
    {X Y : Type 0} (P : X → Type 0) (f : X → Y) → ((x y : X) → P x → P y → f x ≡ f y → x ≡ y) → (xs : List X) → All P xs
    → AllPairs (λ x y. x ≢ y) xs → AllPairs (λ x y. x ≢ y) (map f xs)
AllPairs-map P f tells xs all pairs i j d i_below j_below =
    let n = length-map xs f in
    let within : j < length xs = omega arith in
    let e = element xs (omega arith) in
    λ same. pairs i j e i_below within (tells _ _ (all i e (omega arith)) (all j e within)
    (sym (get_or-map f xs i e d (omega arith)) ∙ same ∙ get_or-map f xs j e d within))

-- a range has different numbers
pub AllPairs-range : (from count : ℕ) → AllPairs (λ (x y : ℕ). x ≢ y) (range_with_len from count)
AllPairs-range from count i j d i_below j_below =
    let n = length-range_with_len from count in
    λ same. absurd
    (omega (arith, get_or-range_with_len from count i d (omega arith), get_or-range_with_len from count j d (omega arith), same))

-- a range contains the numbers from its first to before its end
pub Contains-range : (count x : ℕ) → x < count → Contains (range_with_len 0 count) x
Contains-range count x h = (x, omega (arith, length-range_with_len 0 count), omega (arith, get_or-range_with_len 0 count x x h))

pub All-range : (count : ℕ) → All (λ (x : ℕ). x < count) (range_with_len 0 count)
All-range count k d within =
    let n = length-range_with_len 0 count in
    omega (arith, get_or-range_with_len 0 count k d (omega arith))

-- one more number at the end of a range
pub range_more : (count : ℕ) → range_with_len 0 (count + 1) ≡ range_with_len 0 count ++ count ∷ []
range_more count =
    sym (map-id (range_with_len 0 (count + 1))) ∙ map-range_with_len_more (λ (x : ℕ). x) 0 count count (omega arith)
    ∙ ap (λ (xs : List ℕ). xs ++ count ∷ []) (map-id (range_with_len 0 count))

-- different numbers stay different in another order
pub AllPairs-permutation : (xs ys : List ℕ) → IsPermutation xs ys → AllPairs (λ (x y : ℕ). x ≢ y) xs → AllPairs (λ (x y : ℕ). x ≢ y) ys
AllPairs-permutation xs ys moved pairs =
    AllPairs-from_IsDistinct Decides-eqb ys
    (IsDistinct-IsPermutation nat_eq (λ (x y : ℕ). grind (arith, nat_tests)) xs ys moved (IsDistinct-from_AllPairs Decides-eqb xs pairs))

-- different numbers that are sorted rise
pub increasing_from_sort : (xs : List ℕ) → IsSorted nat_cmp xs → AllPairs (λ (x y : ℕ). x ≢ y) xs → IsStrictlyIncreasing xs
increasing_from_sort xs sorted pairs =
    IsStrictlyIncreasing-from_distinct xs (IsNonDecreasingBy-from_sort (λ (x : ℕ). x) xs sorted)
    (IsDistinct-from_AllPairs Decides-eqb xs pairs)
