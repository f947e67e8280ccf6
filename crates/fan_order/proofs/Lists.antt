-- Lists of rays: what a sort and the dropping of equal directions leave.
use Rattle.std.proofs.Common.{Bool, true, false, cond, ◌≤◌, drop}
use Rattle.std.proofs.Common.{◌≡◌, ℕ, ◌+◌, ◌<◌, List, [], ◌∷◌, ◌++◌, length, get_or, take, subst, Less, Ordering, suc, ap, refl, sym, ◌∙◌}
use Rattle.std.proofs.Common.{arith}
use Rattle.std.specs.List.{All, AllPairs, AllZip, Any, Contains, dedup, dedup_from, refill}
use Rattle.std.specs.List.Sorted.{IsPermutation, IsSorted, IsStrictlySortedBy}
use Rattle.std.specs.Ordering.{eq_by_cmp}
use Rattle.std.specs.Cmp.{Equal-is}
use Rattle.std.proofs.lemmas.Cmp.{eq_by_cmp_equiv}
use Rattle.std.proofs.lemmas.List.{take_more, take_at}
use Rattle.std.proofs.lemmas.List.Kept.{AllPairs-cons, Any-dedup, Contains-from_dedup, IsStrictlySortedBy-dedup}
use Rattle.std.proofs.lemmas.List.Sorted.{Contains-permutation, IsPermutation-sym, length_permutation}
use Rattle.std.proofs.lemmas.List.Elements.{All-from_recursion, All-cons, All-nil, All-weaker, All-contains, All-contains_itself}
use Rattle.plane_laws.proofs.Directions.Angles.{joined_ways}
use Rattle.plane_exact.proofs.Laws.{compare_angles_total, same_compare_angles}
use Rattle.plane_exact.specs.Orders.{compare_angles, IsSameDirection}
use Rattle.plane_exact.specs.declared.dir.Dir.{Dir}
use Rattle.fan_order.specs.declared.section.Section.{Section}
use Rattle.fan_order.specs.Rays.{IsShort, IsRayOf, AreRaysOf}
use Rattle.point_set.specs.Sectors.{IsLowest}

Any-here : {X : Type 0} (P : X → Type 0) (x : X) (xs : List X) → P x → Any P (x ∷ xs)
Any-here P x xs h = (0, x, omega arith, refl, h)

Any-there : {X : Type 0} (P : X → Type 0) (x : X) (xs : List X) → Any P xs → Any P (x ∷ xs)
Any-there P x xs h = (suc h.0, h.1, let k = h.2 in omega (arith, k), h.3, h.4)

-- strictly sorted: each is below all later ones
AllPairs-from_strict : {K : Type 0} (c : K → K → Ordering) (ks : List K) → IsStrictlySortedBy c ks → AllPairs (λ x y. c x y ≡ Less) ks
unfolding IsStrictlySortedBy
AllPairs-from_strict c [] h = λ i j d l m. absurd (omega (arith, m))
AllPairs-from_strict c (k ∷ ks) h =
    AllPairs-cons (λ x y. c x y ≡ Less) k ks (All-from_recursion (λ y. c k y ≡ Less) ks h.0) (AllPairs-from_strict c ks h.1)

-- the directions that are left
abbrev pub kept : List Dir → List Dir
kept = dedup (eq_by_cmp compare_angles)

pub kept_ascends : (mid : List Dir) → IsSorted compare_angles mid → AllPairs (λ d e. compare_angles d e ≡ Less) (kept mid)
kept_ascends mid h = AllPairs-from_strict compare_angles (kept mid) (IsStrictlySortedBy-dedup compare_angles_total (λ x y. refl) mid h)

pub kept_only : (old mid : List Dir) → IsPermutation old mid → All (Contains old) (kept mid)
kept_only old mid p =
    All-weaker (Contains (kept mid)) (Contains old)
    (λ d h. Contains-permutation mid old d (IsPermutation-sym old mid p) (Contains-from_dedup (eq_by_cmp compare_angles) mid d h))
    (kept mid) (All-contains_itself (kept mid))

pub kept_whole : (old mid : List Dir) → IsPermutation old mid → All (λ d. Any (IsSameDirection d) (kept mid)) old
kept_whole old mid p = All-weaker (Contains old) (λ d. Any (IsSameDirection d) (kept mid)) each old (All-contains_itself old)
  where
    each : (d : Dir) → Contains old d → Any (IsSameDirection d) (kept mid)
    each d h =
        let a = Any-dedup (eq_by_cmp_equiv compare_angles_total) mid d (Contains-permutation old mid d p h) in
        (a.0, a.1, a.2, a.3, same_compare_angles d a.1 ((Equal-is (compare_angles d a.1)).0 a.4))

-- ---- two lists side by side
zip_push :
    {X Y : Type 0} (R : X → Y → Type 0) (xs : List X) (ys : List Y) (x : X) (y : Y) → AllZip R xs ys → R x y
    → AllZip R (xs ++ x ∷ []) (ys ++ y ∷ [])
zip_push R [] [] x y h r = (r, tt)
zip_push R [] (b ∷ bs) x y h r = absurd h
zip_push R (a ∷ as_) [] x y h r = absurd h
zip_push R (a ∷ as_) (b ∷ bs) x y h r = (h.0, zip_push R as_ bs x y h.1 r)

pub zip_more :
    {X Y : Type 0} (R : X → Y → Type 0) (xs : List X) (ys : List Y) (i : ℕ) (x : X) (y : Y) → i < length xs → x ≡ get_or xs i x
    → AllZip R (take i xs) ys → R x y → AllZip R (take (i + 1) xs) (ys ++ y ∷ [])
zip_more {X} R xs ys i x y below e h r =
    let more : take (i + 1) xs ≡ take i xs ++ x ∷ [] = take_more xs i x below ∙ ap (λ z. take i xs ++ z ∷ []) (sym e) in
    let Front : List X → Type 0 = λ front. AllZip R front (ys ++ y ∷ []) in
    subst Front (sym more) (zip_push R (take i xs) ys x y h r)

-- ---- from the rays of all sections to those that are kept
zip_left : {X Y : Type 0} (R : X → Y → Type 0) (xs : List X) (ys : List Y) → AllZip R xs ys → All (λ x. Any (R x) ys) xs
zip_left R [] ys h = All-nil (λ x. Any (R x) ys)
zip_left R (x ∷ xs) [] h = absurd h
zip_left R (x ∷ xs) (y ∷ ys) h =
    All-cons (λ z. Any (R z) (y ∷ ys)) x xs (Any-here (R x) y ys h.0)
    (All-weaker (λ z. Any (R z) ys) (λ z. Any (R z) (y ∷ ys)) (λ z k. Any-there (R z) y ys k) xs (zip_left R xs ys h.1))

zip_right : {X Y : Type 0} (R : X → Y → Type 0) (xs : List X) (ys : List Y) → AllZip R xs ys → All (λ y. Any (λ x. R x y) xs) ys
zip_right R xs [] h = All-nil (λ y. Any (λ x. R x y) xs)
zip_right R [] (y ∷ ys) h = absurd h
zip_right R (x ∷ xs) (y ∷ ys) h =
    All-cons (λ z. Any (λ w. R w z) (x ∷ xs)) y ys (Any-here (λ w. R w y) x xs h.0)
    (All-weaker (λ z. Any (λ w. R w z) xs) (λ z. Any (λ w. R w z) (x ∷ xs)) (λ z k. Any-there (λ w. R w z) x xs k) ys
    (zip_right R xs ys h.1))

-- the rays of all sections, of which each direction is kept once
AreRaysOf-kept :
    (sections : List Section) (old rays : List Dir) → AllZip (λ s ray. IsRayOf s.dir ray) sections old
    → AllPairs (λ d e. compare_angles d e ≡ Less) rays → All (Contains old) rays → All (λ d. Any (IsSameDirection d) rays) old
    → AreRaysOf sections rays
AreRaysOf-kept sections old rays zip up only whole = record {
  ascending = up;
  whole =
      All-weaker (λ s. Any (IsRayOf s.dir) old) (λ s. Any (IsRayOf s.dir) rays) along sections
      (zip_left (λ s ray. IsRayOf s.dir ray) sections old zip);
  only = All-weaker (Contains old) (λ ray. Any (λ s. IsRayOf s.dir ray) sections) of_section rays only;
}
  where
    of_section : (ray : Dir) → Contains old ray → Any (λ s. IsRayOf s.dir ray) sections
    of_section ray h =
        All-contains (λ r. Any (λ s. IsRayOf s.dir r) sections) old ray (zip_right (λ s r. IsRayOf s.dir r) sections old zip) h

    along : (s : Section) → Any (IsRayOf s.dir) old → Any (IsRayOf s.dir) rays
    along s h =
        let a = All-contains (λ d. Any (IsSameDirection d) rays) old h.1 whole (h.0, h.2, h.3) in
        let low : IsLowest a.1 = (of_section a.1 (All-contains (Contains old) rays a.1 only (a.0, a.2, a.3))).4.lowest in
        (a.0, a.1, a.2, a.3, record { same = joined_ways h.4.same a.4; lowest = low })

-- and so of the list from which the given one was read
pub rays_kept : (sections given : List Section) (old rays : List Dir) → given ≡ sections
    → AllZip (λ s ray. IsRayOf s.dir ray) given old → AllPairs (λ d e. compare_angles d e ≡ Less) rays → All (Contains old) rays
    → All (λ d. Any (IsSameDirection d) rays) old → AreRaysOf sections rays
rays_kept sections given old rays same zip up only whole =
    AreRaysOf-kept sections old rays (subst (λ (ss : List Section). AllZip (λ s ray. IsRayOf s.dir ray) ss old) same zip) up only whole

pub short_kept : (old rays : List Dir) → All IsShort old → All (Contains old) rays → All IsShort rays
short_kept old rays h only = All-weaker (Contains old) IsShort (λ d k. All-contains IsShort old d h k) rays only

-- ---- how many are left
few_from : {X : Type 0} (same : X → X → Bool) (k : X) (xs : List X) → length (dedup_from same k xs) ≤ suc (length xs)
few_from same k [] = omega arith
few_from {X} same k (x ∷ xs) =
    let dropped = few_from same k xs in
    let left = few_from same x xs in
    by_test (same x k) (dedup_from same k xs) (dedup_from same x xs) dropped left
  where
    by_test : (b : Bool) (ks rest : List X) → length ks ≤ suc (length xs) → length rest ≤ suc (length xs)
        → length (cond b ks (k ∷ rest)) ≤ suc (length (x ∷ xs))
    by_test true ks rest h l = omega (arith, h)
    by_test false ks rest h l = omega (arith, l)

-- no more than there were
few_left : {X : Type 0} (same : X → X → Bool) (xs : List X) → length (dedup same xs) ≤ length xs
few_left same [] = omega arith
few_left same (x ∷ xs) = few_from same x xs

pub kept_few : (old mid : List Dir) → IsPermutation old mid → length (kept mid) ≤ length old
kept_few old mid moved =
    let e = length_permutation old mid moved in
    let h = few_left (eq_by_cmp compare_angles) mid in
    omega (arith, e, h)

-- as many rays as sections before
pub as_many : {X Y : Type 0} (R : X → Y → Type 0) (xs : List X) (ys : List Y) → AllZip R xs ys → length xs ≡ length ys
as_many R [] [] h = refl
as_many R [] (y ∷ ys) h = absurd h
as_many R (x ∷ xs) [] h = absurd h
as_many R (x ∷ xs) (y ∷ ys) h = let e = as_many R xs ys h.1 in omega (arith, e)

-- ---- what is written back in the place of a whole list is the list
pub refilled : {X : Type 0} (old new : List X) → length new ≡ length old → refill (length old) old new ≡ new
refilled old new e = take_at new (drop (length new) old) (length old) e
