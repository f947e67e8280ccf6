-- The ends of lines, and how many of them are at a point.
use Rattle.std.proofs.Common.{◌≡◌, ◌+◌, ◌-◌, ◌<◌, ◌≤◌, get_or, ◌∙◌, ℕ, suc, Bool, true, false, cond, Some, List, [], ◌∷◌, ◌++◌, length}
use Rattle.std.proofs.Common.{drop, refl, sym, ap, subst, arith}
use Rattle.std.specs.Prelude.{slice_get, sum_by}
use Rattle.std.specs.List.{list_all}
use Rattle.std.specs.List.Sorted.{IsPermutation}
use Rattle.std.proofs.lemmas.Bool.{false_from_ne_true}
use Rattle.std.proofs.lemmas.List.{length-append, append_assoc, append-nil, drop_all, at_drop_more}
use Rattle.std.proofs.lemmas.List.Sums.{sum_by-cons}
use Rattle.std.proofs.lemmas.List.Sorted.{sum_by-IsPermutation, length_permutation, IsPermutation-refl, IsPermutation-trans}
use Rattle.std.proofs.lemmas.List.Sorted.{IsPermutation-push_more, IsPermutation-append_left}
use Rattle.plane_laws.proofs.Points.Same.{Decides-is_same_point}
use Rattle.plane_exact.proofs.Laws.{node_at_position}
use Rattle.plane_exact.specs.NodePoints.{point_at}
use Rattle.plane_exact.specs.Places.{point_of}
use Rattle.plane_laws.specs.Plane.{Point}
use Rattle.plane_exact.specs.declared.node.Node.{Node}
use Rattle.plane_exact.specs.declared.point.Pt.{Pt}
use Rattle.point_set.specs.Lines.{last_after, is_still, ends_of, ends_of_lines, is_at, count_at}
use Rattle.point_set.specs.Rings.{is_same_position}

-- ---- one line
-- the last position
last_item : (p : Pt) (others : List Pt) → slice_get (p ∷ others) (length others) ≡ Some (last_after p others)
last_item p [] = refl
last_item p (q ∷ others) = last_item q others

-- a line that moves has its first and its last position as ends
pub two_ends :
    (first last : Pt) (others : List Pt) → list_all (is_same_position first) others ≡ false
    → slice_get others (length others - 1) ≡ Some last → ends_of (first ∷ others) ≡ first ∷ last ∷ []
two_ends first last [] moves is = cc
two_ends first last (q ∷ others) moves is =
    let less : suc (length others) - 1 ≡ length others = omega arith in
    let found : Some (last_after q others) ≡ Some last = sym (last_item q others) ∙ ap (slice_get (q ∷ others)) (sym less) ∙ is in
    let same : last_after q others ≡ last = cc in
    ap (λ (still : Bool). cond still [] (first ∷ last_after q others ∷ [])) moves ∙ ap (λ (p : Pt). first ∷ p ∷ []) same

-- no line has more ends than positions
few_ends : (line : List Pt) → length (ends_of line) ≤ length line
few_ends [] = omega arith
few_ends (p ∷ []) = omega arith
few_ends (p ∷ q ∷ others) = by_test (is_still (p ∷ q ∷ others))
  where
    by_test : (still : Bool) → length (cond still [] (p ∷ last_after q others ∷ [])) ≤ suc (suc (length others))
    by_test true = omega arith
    by_test false = omega arith

-- nor have all lines
pub few_ends_of_lines : (lines : List (List Pt)) → length (ends_of_lines lines) ≤ sum_by length lines
few_ends_of_lines [] = omega arith
few_ends_of_lines (line ∷ lines) =
    omega (arith, few_ends line, few_ends_of_lines lines, length-append (ends_of line) (ends_of_lines lines), sum_by-cons length line lines)

-- ---- how many ends are at a point
-- at most as many as there are
pub count-most : (p : Point) (ends : List Pt) → count_at p ends ≤ length ends
count-most p [] = omega arith
count-most p (q ∷ ends) = by_test (count-most p ends) (is_at p q)
  where
    by_test : count_at p ends ≤ length ends → (b : Bool) → cond b 1 0 + count_at p ends ≤ suc (length ends)
    by_test rest true = omega (arith, rest)
    by_test rest false = omega (arith, rest)

-- their order doesn't matter
pub count-permutation : (p : Point) (ends others : List Pt) → IsPermutation ends others → count_at p others ≡ count_at p ends
count-permutation p ends others same = as_sum others ∙ sum_by-IsPermutation (λ q. cond (is_at p q) 1 0) ends others same ∙ sym (as_sum ends)
  where
    as_sum : (xs : List Pt) → count_at p xs ≡ sum_by (λ q. cond (is_at p q) 1 0) xs
    as_sum [] = refl
    as_sum (q ∷ xs) = ap (λ (n : ℕ). cond (is_at p q) 1 0 + n) (as_sum xs) ∙ sym (sum_by-cons (λ r. cond (is_at p r) 1 0) q xs)

-- at a node that is no position there is none
pub count-none : (n : Node) → ((p : Pt) → ¬ (point_at n ≡ point_of p)) → (ends : List Pt) → count_at (point_at n) ends ≡ 0
count-none n no_position [] = refl
count-none n no_position (p ∷ ends) =
    let apart : is_at (point_at n) p ≡ false =
    false_from_ne_true (is_at (point_at n) p)
    (λ h. no_position p (node_at_position n p ((Decides-is_same_point (point_at n) (point_of p)).0 h))) in
    ap (λ (b : Bool). cond b 1 0 + count_at (point_at n) ends) apart ∙ (let rest = count-none n no_position ends in omega (arith, rest))

-- ---- ends of one line after the other
-- both ends of a line
pub both_ends :
    (p q : Pt) (old between new : List Pt) → IsPermutation (p ∷ old) between → IsPermutation (q ∷ between) new
    → IsPermutation (old ++ p ∷ q ∷ []) new
both_ends p q old between new one other =
    let first : IsPermutation (old ++ p ∷ []) between = IsPermutation-push_more old old between p (IsPermutation-refl old) one in
    let second : IsPermutation ((old ++ p ∷ []) ++ q ∷ []) new = IsPermutation-push_more (old ++ p ∷ []) between new q first other in
    subst (λ (ends : List Pt). IsPermutation ends new) (append_assoc old (p ∷ []) (q ∷ [])) second

-- the ends of the lines up to this one, and of those from here on, are the ends of all
abbrev pub AreEndsSoFar : List (List Pt) → ℕ → List Pt → Type 0
AreEndsSoFar lines place ends = IsPermutation (ends_of_lines lines) (ends ++ ends_of_lines (drop place lines))

-- the lines from a place on
lines_from :
    (lines : List (List Pt)) (place : ℕ) (line : List Pt) → place < length lines → line ≡ get_or lines place line
    → ends_of_lines (drop place lines) ≡ ends_of line ++ ends_of_lines (drop (place + 1) lines)
lines_from lines place line below is =
    at_drop_more ends_of_lines lines place line below ∙ ap (λ (l : List Pt). ends_of l ++ ends_of_lines (drop (place + 1) lines)) (sym is)

-- one line more
pub one_line_more :
    (lines : List (List Pt)) (place : ℕ) (line : List Pt) (old new : List Pt) → place < length lines → line ≡ get_or lines place line
    → AreEndsSoFar lines place old → IsPermutation (old ++ ends_of line) new → AreEndsSoFar lines (place + 1) new
one_line_more lines place line old new below is so_far added =
    let rest : List Pt = ends_of_lines (drop (place + 1) lines) in
    let split : old ++ ends_of_lines (drop place lines) ≡ (old ++ ends_of line) ++ rest =
    ap (λ (ends : List Pt). old ++ ends) (lines_from lines place line below is) ∙ sym (append_assoc old (ends_of line) rest) in
    IsPermutation-trans (ends_of_lines lines) ((old ++ ends_of line) ++ rest) (new ++ rest)
    (subst (λ (ends : List Pt). IsPermutation (ends_of_lines lines) ends) split so_far)
    (IsPermutation-append_left rest (old ++ ends_of line) new added)

-- there are no more of them than positions
pub few_so_far :
    (lines : List (List Pt)) (place : ℕ) (line : List Pt) (old : List Pt) → place < length lines → line ≡ get_or lines place line
    → AreEndsSoFar lines place old → length old + length (ends_of line) ≤ sum_by length lines
few_so_far lines place line old below is so_far =
    let rest : List Pt = ends_of_lines (drop (place + 1) lines) in
    let all = length_permutation (ends_of_lines lines) (old ++ ends_of_lines (drop place lines)) so_far in
    let here = ap length (lines_from lines place line below is) in
    let few = few_ends_of_lines lines in
    omega (arith, all, here, few, length-append old (ends_of_lines (drop place lines)), length-append (ends_of line) rest)

-- at the end these are all
pub all_lines :
    (lines : List (List Pt)) (place : ℕ) (ends : List Pt) → length lines ≤ place → AreEndsSoFar lines place ends
    → IsPermutation (ends_of_lines lines) ends
all_lines lines place ends past so_far =
    let none : ends ++ ends_of_lines (drop place lines) ≡ ends =
    ap (λ (left : List (List Pt)). ends ++ ends_of_lines left) (drop_all place lines past) ∙ append-nil ends in
    subst (λ (l : List Pt). IsPermutation (ends_of_lines lines) l) none so_far
