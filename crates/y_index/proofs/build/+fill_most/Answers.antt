use Rattle.std.proofs.Common.{◌≡◌, ◌≢◌, ◌+◌, ◌-◌, ◌/◌, ◌<◌, ◌≤◌, inl, inr, ⊎_elim, pos, to_z, of_z, w32, length, get_or, ◌∙◌, arith, rules}
use Rattle.std.specs.Prelude.{FitsSigned}
use Rattle.std.specs.Int.{int_max}
use Rattle.std.proofs.lemmas.Int.{ints, to_z-of_z}
use Rattle.std.proofs.lemmas.List.{length-map}
use Rattle.y_index.proofs.Filling.{joined, filled_none, written_spans, written_others, written_root, length_written}
use Rattle.y_index.specs.Rows.{row_of}
use Rattle.y_index.specs.declared.row.Row.{Row}
use Rattle.y_index.proofs.build.+fill_most.Goals as goal

pub returns-then-from-to-clause-filled : goal.returns-then-from-to-clause-filled
returns-then-from-to-clause-filled t c = filled_none c.args.from c.args.to _ c.if-from-to.true c.requires.part

-- the row past the end of a list
abbrev no_row : Row
no_row = record { low = pos 0; high = pos 0; item = 0; most = pos 0 }

pub returns-clause-spans : goal.returns-clause-spans
returns-clause-spans t c =
    let middle = c.args.from + (c.args.to - c.args.from) / 2 in
    let inside : middle < length c.fill_most-after.new.rows = omega arith in
    written_spans c.fill_most-after.new.rows middle no_row (to_z w32 (of_z w32 c.max-most.result)) inside
    ∙ c.fill_most-after.ensures.spans ∙ c.fill_most-before.ensures.spans

pub returns-clause-others : goal.returns-clause-others
returns-clause-others t c = λ k d out.
    let middle = c.args.from + (c.args.to - c.args.from) / 2 in
    let inside : middle < length c.fill_most-after.new.rows = omega arith in
    let apart : k ≢ middle = λ e. ⊎_elim (λ (h : k < c.args.from). omega (arith, e, h)) (λ (h : c.args.to ≤ k). omega (arith, e, h)) out in
    written_others c.fill_most-after.new.rows middle no_row (to_z w32 (of_z w32 c.max-most.result)) inside k d apart
    ∙ c.fill_most-after.ensures.others k d (⊎_elim (λ (h : k < c.args.from). inl (omega (arith, h))) inr out)
    ∙ c.fill_most-before.ensures.others k d (⊎_elim inl (λ (h : c.args.to ≤ k). inr (omega (arith, h))) out)

pub returns-clause-filled : goal.returns-clause-filled
returns-clause-filled t c =
    let middle = c.args.from + (c.args.to - c.args.from) / 2 in
    let rows = c.fill_most-after.new.rows in
    let high = (get_or rows middle no_row).high in
    let fits : FitsSigned w32 high = search rules in
    let before_fits : FitsSigned w32 c.fill_most-before.result = search rules in
    let after_fits : FitsSigned w32 c.fill_most-after.result = search rules in
    let max_fits : FitsSigned w32 c.max.result = search rules in
    let most_fits : FitsSigned w32 c.max-most.result = search rules in
    let inside : middle < length rows = omega arith in
    let most = to_z w32 (of_z w32 c.max-most.result) in
    let larger : c.max.result ≡ int_max c.fill_most-before.result high =
    c.max.ensures.value ∙ (λ i. int_max (to_z-of_z w32 c.fill_most-before.result before_fits i) (to_z-of_z w32 high fits i)) in
    let largest : c.max-most.result ≡ int_max c.max.result c.fill_most-after.result =
    c.max-most.ensures.value
    ∙ (λ i. int_max (to_z-of_z w32 c.max.result max_fits i) (to_z-of_z w32 c.fill_most-after.result after_fits i)) in
    joined (record {
      some = c.if-from-to.false;
      at = omega (arith, c.if-from-to.false);
      long = omega (arith, length_written rows middle no_row most inside, length-map c.fill_most-before.new.rows row_of);
      as_long = omega (arith, length_written rows middle no_row most inside, length-map rows row_of);
      within = omega (arith, length_written rows middle no_row most inside);
      left_filled = c.fill_most-before.ensures.filled;
      right_filled = c.fill_most-after.ensures.filled;
      right_alone = c.fill_most-after.ensures.others;
      root_alone = written_others rows middle no_row most inside;
      root_is = written_root rows middle no_row most inside;
      high_fits = omega (arith, ints, fits);
      most_is = to_z-of_z w32 c.max-most.result most_fits ∙ largest ∙ (λ i. int_max (larger i) c.fill_most-after.result);
    })
