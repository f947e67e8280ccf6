-- Rays in the order of their angles: a direction has at most one place among them, and a search finds it.
use Rattle.std.proofs.Common.{◌≡◌, ◌⊎◌, inl, inr, ℕ, ◌+◌, ◌<◌, ◌≤◌, List, length, get_or, Less, Equal, Greater, Result, Ok, Err}
use Rattle.std.proofs.Common.{sym, ap, ◌∙◌, subst, arith}
use Rattle.std.specs.List.{AllPairs, Any, HoldsAt}
use Rattle.std.specs.List.Sorted.{IsSorted, IsPartitionPoint, IsBinarySearchResult, IsSearchInRange}
use Rattle.std.specs.Ordering.{is_lt, ordering_reverse, ordering_index}
use Rattle.std.proofs.lemmas.List.Sorted.{searchable_from_sorted}
use Rattle.std.proofs.lemmas.Option.{slice_get-get_or, slice_get_within, get_or_from_slice_get}
use Rattle.figure_laws.proofs.Lists.Places.{some_same}
use Rattle.plane_exact.proofs.Laws.{compare_angles_total, compare_angles-same, same_compare_angles}
use Rattle.plane_laws.specs.Directions.{Direction, PointSameWay}
use Rattle.plane_exact.specs.Orders.{compare_angles, IsSameDirection}
use Rattle.plane_exact.specs.declared.dir.Dir.{Dir}
use Rattle.point_set.specs.Validity.{IsAtPlace}
use Rattle.fan_order.specs.Rays.{IsRayOf, IsRayPlace, AreRaysOf}
use Rattle.fan_order.specs.declared.section.Section.{Section}
use Rattle.fan_order.proofs.Walks.{ways_along}

-- the other way round
pub same_back : {d e : Direction} → PointSameWay d e → PointSameWay e d
same_back h = record { m = h.n; n = h.m; some = h.other; other = h.some; across = sym h.across; above = sym h.above }

-- rays by their angles ascending
abbrev pub Ascend : List Dir → Type 0
Ascend rays = AllPairs (λ d e. compare_angles d e ≡ Less) rays

-- at a place stands one ray
pub same_ray : (rays : List Dir) (i : ℕ) (r s : Dir) → IsAtPlace rays i r → IsAtPlace rays i s → r ≡ s
same_ray rays i r s r_is s_is = some_same (sym r_is ∙ s_is)

-- of two different places the rays differ
apart : (rays : List Dir) → Ascend rays → (i j : ℕ) (r s d : Dir) → i < j → IsAtPlace rays i r → IsAtPlace rays j s → IsSameDirection d r
    → IsSameDirection d s → ⊥
apart rays up i j r s d less r_is s_is d_r d_s =
    let below : compare_angles (get_or rays i d) (get_or rays j d) ≡ Less = up i j d less (slice_get_within rays j s s_is) in
    let same : compare_angles r s ≡ Equal = compare_angles-same r s (ways_along (same_back d_r) (same_back d_s)) in
    let clash : Less ≡ Equal =
    sym below
    ∙ (λ k. compare_angles (get_or_from_slice_get rays i r d r_is k) (get_or_from_slice_get rays j s d s_is k))
    ∙ same in
    cc

-- so a direction has one place
pub one_place : (rays : List Dir) → Ascend rays → (i j : ℕ) (r s d : Dir) → IsAtPlace rays i r → IsAtPlace rays j s → IsSameDirection d r
    → IsSameDirection d s → i ≡ j
one_place rays up i j r s d r_is s_is d_r d_s = go (compared i j)
  where
    compared : (i j : ℕ) → (i ≡ j) ⊎ ((i < j) ⊎ (j < i))
    compared i j = grind arith

    go : (i ≡ j) ⊎ ((i < j) ⊎ (j < i)) → i ≡ j
    go (inl same) = same
    go (inr (inl less)) = absurd (apart rays up i j r s d less r_is s_is d_r d_s)
    go (inr (inr less)) = absurd (apart rays up j i s r d less s_is r_is d_s d_r)

-- ---- what a search answers
-- a place
found : (rays : List Dir) (d : Dir) (i : ℕ) → i < length rays → HoldsAt (λ ray. compare_angles ray d ≡ Equal) rays i
    → IsRayPlace rays d i
found rays d i below at = record {
  ray = get_or rays i d;
  ray_is = slice_get-get_or rays i d below;
  same = same_back (same_compare_angles (get_or rays i d) d (at d));
}

-- rays by their angles ascending can be searched
sorted : (rays : List Dir) → Ascend rays → IsSorted compare_angles rays
sorted rays up k d low below =
    ap is_lt
    (compare_angles_total.antisymm (get_or rays (k + 1) d) (get_or rays k d) ∙ ap ordering_reverse (up k (k + 1) d (omega arith) below))

-- or that there is none
not_missed : (rays : List Dir) (d : Dir) (i : ℕ) → Ascend rays
    → ((λ (n : Dir → ℕ). (a b : ℕ) (e : Dir) → a ≤ b → b < length rays → n (get_or rays a e) ≤ n (get_or rays b e))
    (λ ray. ordering_index (compare_angles ray d))
    → IsPartitionPoint (λ ray. compare_angles ray d ≡ Less) (λ ray. compare_angles ray d ≡ Greater) rays i)
    → Any (IsSameDirection d) rays → ⊥
not_missed rays d i up split there = by_side (le_or k i)
  where
    k : ℕ
    k = there.0

    ray : Dir
    ray = there.1

    parts : IsPartitionPoint (λ ray. compare_angles ray d ≡ Less) (λ ray. compare_angles ray d ≡ Greater) rays i
    parts = split (searchable_from_sorted compare_angles_total (λ (y : Dir). y) rays d (sorted rays up))

    equal : compare_angles (get_or rays k ray) d ≡ Equal
    equal = ap (λ (r : Dir). compare_angles r d) there.3 ∙ compare_angles-same ray d (same_back there.4)

    le_or : (a b : ℕ) → (a < b) ⊎ (b ≤ a)
    le_or a b = grind arith

    by_side : (k < i) ⊎ (i ≤ k) → ⊥
    by_side (inl less) = let z : Less ≡ Equal = sym (parts.0 k ray (omega arith) less) ∙ equal in cc
    by_side (inr more) = let z : Greater ≡ Equal = sym (parts.1 k ray more there.2) ∙ equal in cc

-- so the place that it answers is that of the direction
pub placed : (rays : List Dir) (d : Dir) (r : Result ℕ ℕ) → IsSearchInRange r (length rays)
    → IsBinarySearchResult (λ ray. compare_angles ray d) rays r → Ascend rays → Any (IsSameDirection d) rays → (place : ℕ)
    → (r ≡ Ok place) ⊎ (r ≡ Err place) → IsRayPlace rays d place × (place < length rays)
placed rays d (Ok i) bound position up there place (inl e) =
    subst (λ (n : ℕ). IsRayPlace rays d n × (n < length rays)) (let z : i ≡ place = cc in z) (found rays d i bound position, bound)
placed rays d (Ok i) bound position up there place (inr e) = absurd (let z : ⊥ = cc in z)
placed rays d (Err i) bound position up there place is = absurd (not_missed rays d i up position there)

-- ---- each section of a list has its ray
pub some_ray : (sections : List Section) (rays : List Dir) → AreRaysOf sections rays → (i : ℕ) (s : Section) → i < length sections
    → s ≡ get_or sections i s → Any (IsSameDirection s.dir) rays
some_ray sections rays are i s below is =
    let a : Any (IsRayOf s.dir) rays =
    subst (λ (t : Section). Any (IsRayOf t.dir) rays) (sym is) (are.whole i s below) in
    (a.0, a.1, a.2, a.3, a.4.same)
