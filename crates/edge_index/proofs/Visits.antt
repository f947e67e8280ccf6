-- What a walk finds, and how often it looks, subtree by subtree.
use Rattle.std.proofs.Common.{◌≡◌, ℕ, zero, suc, ◌+◌, ◌*◌, ◌<◌, ◌≤◌, ◌⊎◌, inl, inr, Bool, true, false, ◌&&◌, cond, List, [], ◌∷◌, ◌++◌, map}
use Rattle.std.proofs.Common.{refl, sym, ◌∙◌, ap, ap₂, arith}
use Rattle.std.specs.Prelude.{nat_lt, nat_le, count_by}
use Rattle.std.specs.List.{filter}
use Rattle.std.proofs.lemmas.Bool.{cases_lt}
use Rattle.std.proofs.lemmas.Bool.Decides.{nat_tests}
use Rattle.std.proofs.lemmas.List.{map-append}
use Rattle.std.proofs.lemmas.List.Elements.{filter-append}
use Rattle.std.proofs.lemmas.List.Sums.{sum_by-append, sum_by-cons}
use Rattle.edge_index.proofs.Subtrees.{Subtree, subtree_past}
use Rattle.edge_index.proofs.Subtrees.Subtree.{none, some}

-- what a walk sees of a tree: how many rows are inner, whether a row's window meets the one asked for, and the items
pub record View : Type 0 where
  pub inner : ℕ
  pub meets : ℕ → Bool
  pub item : ℕ → ℕ

-- a leaf that meets, and an inner row that does
abbrev pub is_found : View → ℕ → Bool
is_found v place = nat_le v.inner place && v.meets place

abbrev pub is_opened : View → ℕ → Bool
is_opened v place = nat_lt place v.inner && v.meets place

-- where an inner row doesn't meet, neither do its children
abbrev pub IsPruned : View → Type 0
IsPruned v = (place : ℕ) → place < v.inner → v.meets place ≡ false → (v.meets (2 * place + 1) ≡ false) × (v.meets (2 * place + 2) ≡ false)

-- the visit of a subtree, with the items that it finds and the number of its looks
pub data Visit (v : View) : ℕ → List ℕ → ℕ → Type 0 where
  apart : (place : ℕ) → place < 2 * v.inner + 1 → v.meets place ≡ false → Visit v place [] 1
  leaf : (place : ℕ) → place < 2 * v.inner + 1 → v.inner ≤ place → v.meets place ≡ true → Visit v place (v.item place ∷ []) 1
  inner :
      (place : ℕ) (items others : List ℕ) (looks more : ℕ) → place < v.inner → v.meets place ≡ true → Visit v (2 * place + 1) items looks
      → Visit v (2 * place + 2) others more → Visit v place (items ++ others) (1 + (looks + more))

-- each row of the tree has a visit
pub record Visited (v : View) (place : ℕ) : Type 0 where
  pub items : List ℕ
  pub looks : ℕ
  pub visit : Visit v place items looks

pub visited : (v : View) (room place : ℕ) → 2 * v.inner + 1 ≤ room + place → place < 2 * v.inner + 1 → Visited v place
visited v zero place h within = absurd (omega arith)
visited v (suc room) place h within = by_case (v.meets place) refl (cases_lt place v.inner)
    (λ (below : place < v.inner). visited v room (2 * place + 1) (omega arith) (omega arith))
    (λ (below : place < v.inner). visited v room (2 * place + 2) (omega arith) (omega arith))
  where
    by_case :
        (b : Bool) → v.meets place ≡ b → (place < v.inner) ⊎ (v.inner ≤ place) → (place < v.inner → Visited v (2 * place + 1))
        → (place < v.inner → Visited v (2 * place + 2)) → Visited v place
    by_case false e side to_left to_right = record { items = []; looks = 1; visit = apart place within e }
    by_case true e (inr past) to_left to_right = record { items = v.item place ∷ []; looks = 1; visit = leaf place within past e }
    by_case true e (inl below) to_left to_right =
        let l = to_left below in
        let r = to_right below in
        record {
          items = l.items
              ++ r.items;
          looks = 1 + (l.looks + r.looks);
          visit = inner place l.items r.items l.looks r.looks below e l.visit r.visit;
        }

-- a filter at the first element
filter_keeps : (test : ℕ → Bool) (x : ℕ) (xs : List ℕ) → test x ≡ true → filter test (x ∷ xs) ≡ x ∷ filter test xs
filter_keeps test x xs e = ap (λ (b : Bool). cond b (x ∷ filter test xs) (filter test xs)) e

filter_skips : (test : ℕ → Bool) (x : ℕ) (xs : List ℕ) → test x ≡ false → filter test (x ∷ xs) ≡ filter test xs
filter_skips test x xs e = ap (λ (b : Bool). cond b (x ∷ filter test xs) (filter test xs)) e

-- the two tests at a row whose side is known
found_leaf : (v : View) (place : ℕ) → v.inner ≤ place → v.meets place ≡ true → is_found v place ≡ true
found_leaf v place past e = grind (arith, nat_tests)

not_found_inner : (v : View) (place : ℕ) → place < v.inner → is_found v place ≡ false
not_found_inner v place opened = grind (arith, nat_tests)

not_found_out : (v : View) (place : ℕ) → v.meets place ≡ false → is_found v place ≡ false
not_found_out v place e = grind (arith, nat_tests)

opened_inner : (v : View) (place : ℕ) → place < v.inner → v.meets place ≡ true → is_opened v place ≡ true
opened_inner v place opened e = grind (arith, nat_tests)

-- a subtree whose root doesn't meet has no leaf that does
nothing_below :
    (v : View) → IsPruned v → {place : ℕ} {places : List ℕ} → Subtree (2 * v.inner + 1) place places → v.meets place ≡ false
    → filter (is_found v) places ≡ []
nothing_below v pruned (none place past) out = refl
nothing_below v pruned (some place below beside within l r) out =
    filter_skips (is_found v) place (below ++ beside) (not_found_out v place out) ∙ filter-append (is_found v) below beside
    ∙ by_case (cases_lt place v.inner) (nothing_below v pruned l) (nothing_below v pruned r)
  where
    by_case :
        (place < v.inner) ⊎ (v.inner ≤ place) → (v.meets (2 * place + 1) ≡ false → filter (is_found v) below ≡ [])
        → (v.meets (2 * place + 2) ≡ false → filter (is_found v) beside ≡ []) → filter (is_found v) below ++ filter (is_found v) beside ≡ []
    by_case (inl opened) left right = let out' = pruned place opened out in ap₂ (λ (xs ys : List ℕ). xs ++ ys) (left out'.0) (right out'.1)
    by_case (inr past) left right =
        ap₂ (λ (xs ys : List ℕ). xs ++ ys) (ap (filter (is_found v)) (subtree_past l (omega arith)))
        (ap (filter (is_found v)) (subtree_past r (omega arith)))

pub visit_items :
    (v : View) → IsPruned v → {place looks : ℕ} {items places : List ℕ} → Visit v place items looks → Subtree (2 * v.inner + 1) place places
    → items ≡ map v.item (filter (is_found v) places)
visit_items v pruned (apart place within out) tree = sym (ap (map v.item) (nothing_below v pruned tree out))
visit_items v pruned (leaf place within past in') (none place' end) = absurd (omega arith)
visit_items v pruned (leaf place within past in') (some place' below beside within' l r) =
    let nothing : below ++ beside ≡ [] = ap₂ (λ (xs ys : List ℕ). xs ++ ys) (subtree_past l (omega arith)) (subtree_past r (omega arith)) in
    sym (ap (map v.item)
    (filter_keeps (is_found v) place (below ++ beside) (found_leaf v place past in')
    ∙ ap (λ (xs : List ℕ). place ∷ filter (is_found v) xs) nothing))
visit_items v pruned (inner place items others looks more below in' l r) (none place' end) = absurd (omega arith)
visit_items v pruned (inner place items others looks more opened in' l r) (some place' below beside within' l' r') =
    let both = ap₂ (λ (xs ys : List ℕ). xs ++ ys) (visit_items v pruned l l') (visit_items v pruned r r') in
    let parts = filter_skips (is_found v) place (below ++ beside) (not_found_inner v place opened)
    ∙ filter-append (is_found v) below beside in
    both ∙ sym (ap (map v.item) parts ∙ map-append v.item (filter (is_found v) below) (filter (is_found v) beside))

pub visit_looks :
    (v : View) → {place looks : ℕ} {items places : List ℕ} → Visit v place items looks → Subtree (2 * v.inner + 1) place places
    → looks ≤ 2 * count_by (is_opened v) places + 1
visit_looks v (apart place within out) tree = omega arith
visit_looks v (leaf place within past in') tree = omega arith
visit_looks v (inner place items others looks more opened in' l r) (none place' end) = absurd (omega arith)
visit_looks v (inner place items others looks more opened in' l r) (some place' below beside within' l' r') =
    let weight = λ (b : Bool). cond {A = ℕ} b 1 0 in
    let one = ap weight (opened_inner v place opened in') in
    let parts = sum_by-cons (λ (x : ℕ). cond (is_opened v x) 1 0) place (below ++ beside) in
    let both = sum_by-append (λ (x : ℕ). cond (is_opened v x) 1 0) below beside in
    let a = visit_looks v l l' in
    let b = visit_looks v r r' in
    omega arith
