use Rattle.std.proofs.Common.{◌+◌, nat_lt, length, sym, ◌∙◌, arith}
use Rattle.text_laws.proofs.Numbers.Forms.{formed_by, digits_both}
use Rattle.wkt_text.proofs.Values.{formed}
use Rattle.wkt_text.proofs.number.read_number.Goals as goal

pub returns : goal.returns
returns c =
    let text = c.args.text.now in
    let m = c.split_mantissa.result.0.now in
    let x = c.split_mantissa.result.1.now in
    let w = c.split_point.result.0.now in
    let f = c.split_point.result.1.now in
    let e₁ = rw c.skip_sign.ensures.rest at c.split_mantissa.ensures.front in
    let e₂ = rw c.skip_sign.ensures.rest at c.split_mantissa.ensures.back in
    let e₃ = c.split_point.ensures.whole in
    let e₄ = c.split_point.ensures.fraction in
    let h = sym c.is_mantissa.ensures.mantissa ∙ c.if-not-is_mantissa.false in
    let k = sym c.is_exponent.ensures.exponent ∙ c.if-not-is_exponent.false in
    record {
      numeral = c.judged.ensures.judged ∙ rw (
        c.is_minus.ensures.minus,
        c.kept_value.ensures.value,
        c.shift_by.ensures.zeros,
        c.shift_by.ensures.dropped,
        c.exponent_of-minus.ensures.minus,
        c.exponent_of-minus.ensures.size,
      )
          (formed c.args.scale.digits text (omega arith) (omega (arith, c.args.scale.within)) m x w f
          (formed_by text m x w f e₁ e₂ e₃ e₄ h k)
          (digits_both w f (nat_lt 0 (length w + length f)) c.split_point.ensures.digits h) (omega arith) e₁ e₂ e₃ e₄);
    }
