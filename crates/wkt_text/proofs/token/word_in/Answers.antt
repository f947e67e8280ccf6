use Rattle.std.proofs.Common.{◌≡◌, refl, arith}
use Rattle.std.specs.List.{prefix_len}
use Rattle.std.specs.Char.{is_ascii_alphabetic}
use Rattle.wkt_text.proofs.token.word_in.Goals as goal

pub returns-clause-word : goal.returns-clause-word
returns-clause-word c =
    let e : c.run_end-end.result ≡ prefix_len is_ascii_alphabetic c.args.text.now = omega arith in
    rw (c.word_token.ensures.token, c.split_at.ensures.front, e) refl
