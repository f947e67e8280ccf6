use Rattle.std.proofs.Common.{◌≡◌, List, length, sym, ◌∙◌, ap, subst, arith}
use Rattle.std.specs.Prelude.{map}
use Rattle.std.specs.List.{enumerate_from}
use Rattle.std.proofs.lemmas.List.{with_items_is}
use Rattle.y_index.proofs.Built.{tree_of_filled, rows_of_built, as_many}
use Rattle.y_index.specs.Rows.{row_of}
use Rattle.y_index.specs.Trees.{placed, IsSpanTree, AreRowsOf}
use Rattle.y_index.specs.declared.row.Row.{Row}
use Rattle.y_index.proofs.index.YIndex.build.Goals as goal

pub invariant_of-result-clause-few : goal.invariant_of-result-clause-few
invariant_of-result-clause-few c =
    let made = c.in_ok-rows.ensures.rows ∙ ap (enumerate_from 0) c.as_slice.ensures.items in
    let many = as_many c.in_ok-rows.rows.items c.args.spans.now made in
    omega (arith, many, c.sort_unstable.ensures.len, c.in_ok-rows.rows.ok.0, c.requires.few)

pub invariant_of-result-clause-tree : goal.invariant_of-result-clause-tree
invariant_of-result-clause-tree c =
    let sorted = c.sort_unstable.new.self in
    let filled = c.fill_most.new.rows in
    let long : length filled ≡ sorted.len = omega (arith, c.fill_most.auto.rows, c.as_mut_slice.ensures.len) in
    let kept : map placed (map row_of filled) ≡ map placed (map row_of sorted.items) =
    c.fill_most.ensures.spans ∙ (λ i. map placed (map row_of (c.as_mut_slice.ensures.value i))) in
    let count : c.len-count.result ≡ length sorted.items = omega (arith, c.len-count.ensures, sorted.ok.0) in
    let in_place = tree_of_filled sorted.items filled kept c.len-count.result c.fill_most.result in
    subst (λ (rows : List Row). IsSpanTree (map row_of rows)) (sym (with_items_is sorted filled long))
    (in_place c.sort_unstable.ensures.sorted count c.fill_most.ensures.filled)

pub returns : goal.returns
returns c =
    let sorted = c.sort_unstable.new.self in
    let filled = c.fill_most.new.rows in
    let long : length filled ≡ sorted.len = omega (arith, c.fill_most.auto.rows, c.as_mut_slice.ensures.len) in
    let kept : map placed (map row_of filled) ≡ map placed (map row_of sorted.items) =
    c.fill_most.ensures.spans ∙ (λ i. map placed (map row_of (c.as_mut_slice.ensures.value i))) in
    let made = c.in_ok-rows.ensures.rows ∙ ap (enumerate_from 0) c.as_slice.ensures.items in
    let all = rows_of_built sorted.items filled kept c.in_ok-rows.rows.items c.args.spans.now made c.sort_unstable.ensures.permutation in
    record { rows = subst (λ (rows : List Row). AreRowsOf c.args.spans.now (map row_of rows)) (sym (with_items_is sorted filled long)) all }
