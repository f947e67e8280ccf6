-- How many lines and areas a figure has: no more than positions.
use Rattle.std.proofs.Common.{ℕ, zero, suc, ◌≤◌, List, [], ◌∷◌, length, ap, arith}
use Rattle.std.specs.Prelude.{sum_by}
use Rattle.std.specs.List.{All}
use Rattle.std.proofs.lemmas.List.Elements.{All-head, All-tail}
use Rattle.std.proofs.lemmas.List.Sums.{sum_by-cons}
use Rattle.point_set.specs.declared.figure.Figure.{Figure}
use Rattle.point_set.specs.Shape.{IsWellShaped, positions_of_area}
use Rattle.point_set.specs.Validity.{IsAtPlace}
use Rattle.figure_laws.proofs.Lists.Places.{some_same}

-- items of a size of at least one are no more than the sum of their sizes
pub count_by_length : {X : Type 0} (size : X → ℕ) (xs : List X) → All (λ x. 1 ≤ size x) xs → length xs ≤ sum_by size xs
count_by_length size [] all = omega arith
count_by_length size (x ∷ xs) all =
    let here : 1 ≤ size x = All-head (λ x. 1 ≤ size x) x xs all in
    omega (arith, here, count_by_length size xs (All-tail (λ x. 1 ≤ size x) x xs all), sum_by-cons size x xs)

-- the size of one item is at most the sum of all
pub one_of_sum : {X : Type 0} (size : X → ℕ) (xs : List X) (i : ℕ) (x : X) → IsAtPlace xs i x → size x ≤ sum_by size xs
one_of_sum size [] i x is = cc
one_of_sum size (y ∷ xs) zero x is =
    let same : size y ≤ size x = omega (arith, ap size (some_same is)) in
    let other : size x ≤ size y = omega (arith, ap size (some_same is)) in
    omega (arith, same, other, sum_by-cons size y xs)
one_of_sum size (y ∷ xs) (suc i) x is = omega (arith, one_of_sum size xs i x is, sum_by-cons size y xs)

-- so lines are few
pub few_lines : (f : Figure) → IsWellShaped f → length f.lines ≤ 1048576
few_lines f shaped =
    let few = shaped.few in
    let lines = count_by_length length f.lines (λ i d below. let long = (shaped.lines i d below).long in omega (arith, long)) in
    omega (arith, few, lines)

-- and areas
pub few_areas : (f : Figure) → IsWellShaped f → length f.areas ≤ 1048576
few_areas f shaped =
    let few = shaped.few in
    let areas = count_by_length positions_of_area f.areas
    (λ i d below. let long = (shaped.areas i d below).shell.long in omega (arith, long)) in
    omega (arith, few, areas)
