-- The number that was read is that of the text.
use Rattle.std.proofs.Common.{◌≡◌, ◌≢◌, ◌==◌, ◌∙◌, sym, ap, ℕ, List, false, true≢false, get_or, lit<}
use Rattle.geosop_line.proofs.NumberTexts.{number_read, number_unread}
use Rattle.geosop_line.proofs.number.number_to.Goals as goal

-- a text whose test for a plus in front failed has none
plain_of : (text : List ℕ) → false ≡ (get_or text 0 0 == 43) → get_or text 0 0 ≢ 43
plain_of text test is = true≢false (sym (test ∙ ap (λ b. b == 43) is))

pub returns-in_default : goal.returns-in_default
returns-in_default c =
    let plain = plain_of c.args.text.now (c.if-starts_with.ensures.byte (lit< tt) (lit< tt) (λ w o h. h)) in
    record { number = number_unread _ c.args.text.now c.in_default.field-0 c.in_default.ensures.value.0 plain }

pub returns : goal.returns
returns c =
    let plain = plain_of c.args.text.now (c.if-starts_with.ensures.byte (lit< tt) (lit< tt) (λ w o h. h)) in
    record {
      number = number_read _ c.args.text.now c.in-Ok.number c.in-Ok.ensures.value.0 plain c.if-text-gt4.false c.if-number-lt1.false
          c.if-number-most.false;
    }
