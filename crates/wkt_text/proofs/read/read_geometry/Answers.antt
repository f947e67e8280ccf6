use Rattle.std.proofs.Common.{◌≡◌, sym, ◌∙◌, arith}
use Rattle.std.proofs.lemmas.Result.{err_from_is_err_and}
use Rattle.wkt_text.specs.Tokens.{lexeme_at}
use Rattle.wkt_text.proofs.Progress.{so_far_more, so_far_stop, so_far_reads, so_far_counted, taken_moves, done_from, not_done_from}
use Rattle.wkt_text.proofs.read.read_geometry.Goals as goal

pub take-requires-clause-counted : goal.take-requires-clause-counted
take-requires-clause-counted c =
    so_far_counted c.args.scale.digits c.args.bytes.now c.args.at c.tokens.place c.tokens.control _ c.tokens.invariant.so_far

pub returns-in_err-control-clause-fault : goal.returns-in_err-control-clause-fault
returns-in_err-control-clause-fault c =
    let p = err_from_is_err_and c.from_residual.result c.from_residual.ensures.1 in
    let h = rw c.next_token-lexeme.ensures.token at c.in_err-control.ensures.fault in
    rw (p.1, p.2) (so_far_stop c.args.scale.digits c.args.bytes.now c.args.at c.tokens.place c.tokens.control c.tokens.build _
    c.requires.some (not_done_from c.tokens.control.step (sym c.is_done.ensures.done ∙ c.tokens-test.true)) c.tokens.invariant.so_far h)

pub tokens-smaller : goal.tokens-smaller
tokens-smaller c =
    let t = rw c.next_token-lexeme.ensures.token at c.in_ok-control.ensures.taken in
    let m = taken_moves c.args.scale.digits c.args.bytes.now c.tokens.place _ _ _ _ t in
    let e : c.next_token-lexeme.result.«end» ≡ (lexeme_at c.args.scale.digits c.args.bytes.now c.tokens.place).«end» = cc in
    omega (arith, m, e, c.next_token-lexeme.ensures.within, c.tokens.invariant.within)

pub tokens-preserved : goal.tokens-preserved
tokens-preserved c =
    let t = rw c.next_token-lexeme.ensures.token at c.in_ok-control.ensures.taken in
    let s = so_far_more c.args.scale.digits c.args.bytes.now c.args.at c.tokens.place _ _ _ _ c.tokens.invariant.so_far t in
    record {
      within = c.next_token-lexeme.ensures.within;
      shallow = c.in_ok-control.ensures.shallow;
      so_far = rw c.next_token-lexeme.ensures.token s;
    }

pub returns-clause-read : goal.returns-clause-read
returns-clause-read c =
    so_far_reads c.args.scale.digits c.args.bytes.now c.args.at c.tokens.place c.tokens.control c.tokens.build c.tokens.invariant.so_far
    (done_from c.tokens.control.step (sym c.is_done.ensures.done ∙ c.tokens-test.false))
