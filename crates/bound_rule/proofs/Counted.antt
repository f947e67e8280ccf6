-- Line ends that are counted by their positions.
use Prim.Native.Nat.{zero}
use Rattle.std.proofs.Common.{◌≡◌, ◌+◌, ◌∙◌, ℕ, suc, Bool, true, false, cond, Option, Some, None, List, [], ◌∷◌, ◌++◌, replicate, refl, sym}
use Rattle.std.proofs.Common.{ap, subst, arith, Ordering, Less, Equal}
use Rattle.std.specs.BTreeMap.{insert_entry, is_at as is_key}
use Rattle.std.specs.Cmp.{Equal-is}
use Rattle.std.specs.List.{AllByRecursion}
use Rattle.std.specs.List.Sorted.{IsPermutation, IsStrictlySortedBy}
use Rattle.std.specs.Map.{keys_of, lookup}
use Rattle.std.specs.Option.{unwrap_or}
use Rattle.std.specs.Ordering.{match_ordering, ordering_then, int_cmp, is_eq}
use Rattle.std.specs.declared.cmp.Ordering.TheVariants.{Greater}
use Rattle.std.proofs.lemmas.Bool.Decides.{same_from_decides}
use Rattle.std.proofs.lemmas.Cmp.{on_total}
use Rattle.std.proofs.lemmas.List.Sorted.{IsPermutation-refl, IsPermutation-sym, IsPermutation-trans, IsPermutation-middle}
use Rattle.std.proofs.lemmas.List.Sorted.{IsPermutation-append_right}
use Rattle.std.proofs.lemmas.Map.Entries.{lookup_at_gap}
use Rattle.whole_algebra.proofs.Laws.{*ℤ_one}
use Rattle.plane_laws.proofs.Points.Same.{Decides-is_same_point}
use Rattle.plane_laws.proofs.Points.Order.{compare_points_total, compare_points_same, same_compare_points}
use Rattle.plane_exact.specs.Places.{point_of}
use Rattle.plane_laws.specs.Plane.{IsSamePoint}
use Rattle.plane_exact.specs.declared.point.Pt.{Pt}
use Rattle.point_set.specs.Lines.{is_at, count_at}
use Rattle.bound_rule.specs.Counts.{ends_in}
use Rattle.bound_rule.specs.Positions.{compare_positions}

-- positions, each with a count
abbrev Counts : Type 0
Counts = List (Pt × ℕ)

-- how many ends are counted at a position
abbrev pub counted_at : Pt → Counts → ℕ
counted_at p counts = unwrap_or (lookup (is_key (compare_positions p)) counts) 0

-- ---- positions
-- their order goes by the coordinates
pub compare_positions-coordinates : (p q : Pt) → ordering_then (int_cmp p.x q.x) (int_cmp p.y q.y) ≡ compare_positions p q
compare_positions-coordinates p q =
    λ i. ordering_then (int_cmp (sym (*ℤ_one p.x) i) (sym (*ℤ_one q.x) i)) (int_cmp (sym (*ℤ_one p.y) i) (sym (*ℤ_one q.y) i))

-- positions that compare as equal are one
pub same_positions : (p q : Pt) → compare_positions p q ≡ Equal → p ≡ q
same_positions p q e =
    let same : IsSamePoint (point_of p) (point_of q) = same_compare_points (point_of p) (point_of q) e in
    let x : p.x ≡ q.x = sym (*ℤ_one p.x) ∙ same.across ∙ *ℤ_one q.x in
    let y : p.y ≡ q.y = sym (*ℤ_one p.y) ∙ same.above ∙ *ℤ_one q.y in
    λ i. record { x = x i; y = y i }

-- one is at another exactly where they compare as equal
pub is_at-position : (p q : Pt) → is_at (point_of p) q ≡ is_eq (compare_positions p q)
is_at-position p q =
    let equal = Equal-is (compare_positions p q) in
    same_from_decides (is_at (point_of p) q) (is_eq (compare_positions p q)) (Decides-is_same_point (point_of p) (point_of q))
    (λ h. same_compare_points (point_of p) (point_of q) (equal.0 h), λ same. equal.1 (compare_points_same (point_of p) (point_of q) same))

-- ---- counts
-- several ends at the position
count-here :
    (p q : Pt) (n : ℕ) (ends : List Pt) → is_at (point_of p) q ≡ true
    → count_at (point_of p) (replicate n q ++ ends) ≡ n + count_at (point_of p) ends
count-here p q zero ends h = omega arith
count-here p q (suc n) ends h =
    let rest = count-here p q n ends h in
    ap (λ (b : Bool). cond b 1 0 + count_at (point_of p) (replicate n q ++ ends)) h ∙ omega (arith, rest)

-- several ends elsewhere
count-there :
    (p q : Pt) (n : ℕ) (ends : List Pt) → is_at (point_of p) q ≡ false
    → count_at (point_of p) (replicate n q ++ ends) ≡ count_at (point_of p) ends
count-there p q zero ends h = refl
count-there p q (suc n) ends h =
    let rest = count-there p q n ends h in
    ap (λ (b : Bool). cond b 1 0 + count_at (point_of p) (replicate n q ++ ends)) h ∙ omega (arith, rest)

-- no end is at a position below all that are counted
count-below :
    (p : Pt) (counts : Counts) → AllByRecursion (λ q. compare_positions p q ≡ Less) (keys_of counts)
    → count_at (point_of p) (ends_in counts) ≡ 0
count-below p [] h = refl
count-below p (e ∷ counts) h =
    count-there p e.0 e.1 (ends_in counts) (is_at-position p e.0 ∙ ap is_eq h.0) ∙ count-below p counts h.1

-- what is counted at a position is the number of ends there
pub counted_at-count :
    (p : Pt) (counts : Counts) → IsStrictlySortedBy compare_positions (keys_of counts)
    → counted_at p counts ≡ count_at (point_of p) (ends_in counts)
unfolding IsStrictlySortedBy
counted_at-count p [] sorted = refl
counted_at-count p (e ∷ counts) sorted =
    by_test (counted_at-count p counts sorted.1) (is_eq (compare_positions p e.0)) refl
  where
    by_test :
        counted_at p counts ≡ count_at (point_of p) (ends_in counts) → (b : Bool) → is_eq (compare_positions p e.0) ≡ b
        → unwrap_or (cond b (Some e.1) (lookup (is_key (compare_positions p)) counts)) 0 ≡ count_at (point_of p) (ends_in (e ∷ counts))
    by_test r true h =
        let same : p ≡ e.0 = same_positions p e.0 ((Equal-is (compare_positions p e.0)).0 h) in
        let Below : Pt → Type 0 = λ q. AllByRecursion (λ r. compare_positions q r ≡ Less) (keys_of counts) in
        let none = count-below p counts (subst Below (sym same) sorted.0) in
        let here = count-here p e.0 e.1 (ends_in counts) (is_at-position p e.0 ∙ h) in
        omega (arith, none, here)
    by_test r false h = r ∙ sym (count-there p e.0 e.1 (ends_in counts) (is_at-position p e.0 ∙ h))

-- the counts with another one at a position, by how it compares with the first
abbrev put_by : Ordering → Pt × ℕ → Counts → Pt → ℕ → Counts
put_by o e counts p n = match_ordering o ((p, n) ∷ e ∷ counts) ((e.0, n) ∷ counts) (e ∷ insert_entry compare_positions counts p n)

-- a position below the first has no count
none_below :
    (p : Pt) (e : Pt × ℕ) (counts : Counts) → IsStrictlySortedBy compare_positions (keys_of (e ∷ counts)) → compare_positions p e.0 ≡ Less
    → lookup (is_key (compare_positions p)) (e ∷ counts) ≡ None
none_below p e counts sorted below =
    lookup_at_gap (on_total point_of compare_points_total) p (e ∷ counts) 0 sorted (λ j d before. absurd (omega arith))
    (λ d same. (let first : e ≡ d = cc in subst (λ (x : Pt × ℕ). compare_positions p x.0 ≡ Less) first below))

-- counting one more at a position puts one end more there
pub counted_more :
    (p : Pt) (n : ℕ) (counts : Counts) → IsStrictlySortedBy compare_positions (keys_of counts) → n ≡ suc (counted_at p counts)
    → IsPermutation (p ∷ ends_in counts) (ends_in (insert_entry compare_positions counts p n))
unfolding IsStrictlySortedBy
counted_more p n [] sorted is = subst (λ (m : ℕ). IsPermutation (p ∷ []) (replicate m p ++ [])) (sym is) (IsPermutation-refl (p ∷ []))
counted_more p n (e ∷ counts) sorted is = by_order (counted_more p n counts sorted.1) (compare_positions p e.0) refl is
  where
    old : List Pt
    old = ends_in (e ∷ counts)

    more : List Pt
    more = ends_in (insert_entry compare_positions counts p n)

    by_order :
        (n ≡ suc (counted_at p counts) → IsPermutation (p ∷ ends_in counts) more) → (o : Ordering) → compare_positions p e.0 ≡ o
        → n ≡ suc (unwrap_or (cond (is_eq o) (Some e.1) (lookup (is_key (compare_positions p)) counts)) 0)
        → IsPermutation (p ∷ old) (ends_in (put_by o e counts p n))
    by_order r Less h i =
        let none : lookup (is_key (compare_positions p)) counts ≡ None =
        (λ j. cond (is_eq (sym h j)) (Some e.1) (lookup (is_key (compare_positions p)) counts)) ∙ none_below p e counts sorted h in
        let one : n ≡ suc 0 = i ∙ ap (λ (o : Option ℕ). suc (unwrap_or o 0)) none in
        subst (λ (m : ℕ). IsPermutation (p ∷ old) (replicate m p ++ old)) (sym one) (IsPermutation-refl (p ∷ old))
    by_order r Equal h i =
        subst (λ (m : ℕ). IsPermutation (p ∷ old) (replicate m e.0 ++ ends_in counts)) (sym i)
        (subst (λ (q : Pt). IsPermutation (p ∷ old) (q ∷ old)) (same_positions p e.0 h) (IsPermutation-refl (p ∷ old)))
    by_order r Greater h i =
        let here : List Pt = replicate e.1 e.0 in
        IsPermutation-trans (p ∷ old) (here ++ p ∷ ends_in counts) (here ++ more)
        (IsPermutation-sym (here ++ p ∷ ends_in counts) (p ∷ old) (IsPermutation-middle here p (ends_in counts)))
        (IsPermutation-append_right here (p ∷ ends_in counts) more (r i))
