use Rattle.std.proofs.Common.{◌+◌, ◌++◌, sym, ap, ◌∙◌, arith}
use Rattle.plane_exact.specs.Limits.{limit}
use Rattle.text_laws.specs.Numbers.{kept_value}
use Rattle.text_laws.proofs.Numbers.Cuts.{cut, kept_value_not_second, kept_value_some}
use Rattle.wkt_text.proofs.number.kept_value.Goals as goal

pub returns-then-not-all_zeros-2 : goal.returns-then-not-all_zeros-2
returns-then-not-all_zeros-2 c =
    let k = c.saturating_sub-kept.result in
    let parts = cut c.args.whole.now c.args.fraction.now _ _ _ _ k c.min-split.result (omega arith) c.min-split.ensures
    c.split_at.ensures.front c.split_at.ensures.back c.split_at-2.ensures.front c.split_at-2.ensures.back in
    record {
      value = sym (kept_value_not_second (limit + 1) c.args.shift.zeros parts
          (sym c.all_zeros.ensures.zeros ∙ c.if-not-all_zeros.false) (sym c.all_zeros-2.ensures.zeros ∙ c.if-not-all_zeros-2.true))
          ∙ ap (λ n. kept_value (limit + 1) (c.args.whole.now ++ c.args.fraction.now) n c.args.shift.zeros) c.saturating_sub-kept.ensures;
    }

pub returns : goal.returns
returns c =
    let k = c.saturating_sub-kept.result in
    let parts = cut c.args.whole.now c.args.fraction.now _ _ _ _ k c.min-split.result (omega arith) c.min-split.ensures
    c.split_at.ensures.front c.split_at.ensures.back c.split_at-2.ensures.front c.split_at-2.ensures.back in
    record {
      value = sym (kept_value_some (limit + 1) c.args.shift.zeros parts c.read_on.result c.read_on-size.result c.lengthen.result
          (sym c.all_zeros.ensures.zeros ∙ c.if-not-all_zeros.false) (sym c.all_zeros-2.ensures.zeros ∙ c.if-not-all_zeros-2.false)
          c.read_on.ensures.sum c.read_on-size.ensures.sum c.lengthen.ensures.size)
          ∙ ap (λ n. kept_value (limit + 1) (c.args.whole.now ++ c.args.fraction.now) n c.args.shift.zeros) c.saturating_sub-kept.ensures;
    }
