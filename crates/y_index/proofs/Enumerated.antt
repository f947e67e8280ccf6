-- Rows of spans that are numbered by their places.
use Rattle.std.proofs.Common.{◌≡◌, ℕ, ◌+◌, ◌<◌, List, [], ◌∷◌, ◌++◌, length, get_or, take, ap, sym, ◌∙◌, arith}
use Rattle.std.specs.Prelude.{map}
use Rattle.std.specs.List.{enumerate_from}
use Rattle.std.proofs.lemmas.List.{map_push, take_more, length-take-le}
use Rattle.y_index.specs.Rows.{row_of}
use Rattle.y_index.specs.Trees.{placed}
use Rattle.y_index.specs.declared.row.Row.{Row}
use Rattle.y_index.specs.declared.rows.Span.{Span}

-- one more item at the end
enumerate_from-push : {X : Type 0} (n : ℕ) (xs : List X) (x : X) →
    enumerate_from n (xs ++ x ∷ []) ≡ enumerate_from n xs ++ (n + length xs, x) ∷ []
enumerate_from-push n [] x = ap (λ k. (k, x) ∷ []) (let e : n ≡ n + 0 = omega arith in e)
enumerate_from-push n (y ∷ ys) x =
    ap (λ items. (n, y) ∷ items)
    (enumerate_from-push (n + 1) ys x
    ∙ ap (λ k. enumerate_from (n + 1) ys ++ (k, x) ∷ []) (let e : n + 1 + length ys ≡ n + length (y ∷ ys) = omega arith in e))

-- one more row, at the place up to which the spans have theirs
pub rows_more : (rows : List Row) (row : Row) (spans : List Span) (i : ℕ) (d : Span) → i < length spans →
    map placed (map row_of rows) ≡ enumerate_from 0 (take i spans) → placed (row_of row) ≡ (i, get_or spans i d) →
    map placed (map row_of (rows ++ row ∷ [])) ≡ enumerate_from 0 (take (i + 1) spans)
rows_more rows row spans i d below so_far one =
    ap (map placed) (map_push row_of rows row)
    ∙ map_push placed (map row_of rows) (row_of row)
    ∙ (λ j. so_far j ++ one j ∷ [])
    ∙ ap (λ k. enumerate_from 0 (take i spans) ++ (k, get_or spans i d) ∷ [])
    (let e : i ≡ 0 + length (take i spans) = omega (arith, length-take-le i spans (omega (arith, below))) in e)
    ∙ sym (enumerate_from-push 0 (take i spans) (get_or spans i d))
    ∙ ap (enumerate_from 0) (sym (take_more spans i d below))
