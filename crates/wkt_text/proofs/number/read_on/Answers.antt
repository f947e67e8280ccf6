use Rattle.std.proofs.Common.{◌≡◌, ◌+◌, ◌-◌, ◌*◌, min, drop, get_or, ap, ◌∙◌, arith}
use Rattle.std.specs.Char.{is_ascii_digit}
use Rattle.text_laws.specs.Numbers.{read_on, capped}
use Rattle.text_laws.proofs.Numbers.Capped.{capped-read_on-more, list_all-more}
use Rattle.wkt_text.proofs.number.read_on.Goals as goal

pub loop-b-preserved : goal.loop-b-preserved
loop-b-preserved c =
    let text = c.args.text.now in
    let i = c.loop-b.b-index in
    let e : c.min-sum.result ≡ min (c.loop-b.sum * 10 + (get_or text i 0 - 48)) c.args.cap = cc in
    record {
      under = omega arith;
      digits = list_all-more is_ascii_digit text i c.loop-b-test.true c.loop-b.invariant.digits;
      same = ap (λ n. capped c.args.cap (read_on n (drop (i + 1) text))) e
          ∙ capped-read_on-more c.args.cap c.loop-b.sum text i c.loop-b-test.true ∙ c.loop-b.invariant.same;
    }
