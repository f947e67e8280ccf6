use Rattle.std.proofs.Common.{◌≡◌, refl, arith}
use Rattle.std.specs.List.{prefix_len}
use Rattle.wkt_text.specs.Bytes.{is_numeric}
use Rattle.wkt_text.proofs.token.number_in.Goals as goal

pub returns-clause-number : goal.returns-clause-number
returns-clause-number c =
    let e : c.run_end-end.result ≡ prefix_len is_numeric c.args.text.now = omega arith in
    rw (c.read_number.ensures.numeral, c.split_at.ensures.front, e) refl
