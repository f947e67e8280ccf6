use Rattle.std.proofs.Common.{◌≡◌, arith}
use Rattle.std.specs.List.{prefix_len}
use Rattle.std.specs.Char.{is_ascii_digit}
use Rattle.text_laws.proofs.Fronts.{list_all-prefix, rest_after}
use Rattle.wkt_text.proofs.number.split_point.Goals as goal

pub returns-in-empty-clause-digits : goal.returns-in-empty-clause-digits
returns-in-empty-clause-digits c =
    let m = c.args.mantissa.now in
    let n : c.run_end.result ≡ prefix_len is_ascii_digit m = omega arith in
    rw (c.split_at.ensures.front, n) (list_all-prefix is_ascii_digit m)

pub returns-in-len1-up-clause-fraction : goal.returns-in-len1-up-clause-fraction
returns-in-len1-up-clause-fraction c =
    let m = c.args.mantissa.now in
    rest_after m c.split_at.result.1.now c.run_end.result (prefix_len is_ascii_digit m) c.split_at.ensures.back (omega arith)

pub returns-in-len1-up-clause-digits : goal.returns-in-len1-up-clause-digits
returns-in-len1-up-clause-digits c =
    let m = c.args.mantissa.now in
    let n : c.run_end.result ≡ prefix_len is_ascii_digit m = omega arith in
    rw (c.split_at.ensures.front, n) (list_all-prefix is_ascii_digit m)
