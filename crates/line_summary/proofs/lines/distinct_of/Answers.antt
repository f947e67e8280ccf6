-- One more line is put in at each step, until all are.
use Rattle.std.proofs.Common.{◌≡◌, ◌∙◌, take, sym, subst, get_or}
use Rattle.std.specs.List.{Contains}
use Rattle.std.proofs.lemmas.List.{take_more, take_all}
use Rattle.std.proofs.lemmas.List.Elements.{Contains-get_or}
use Rattle.line_summary.proofs.Distinct.{AreDistinctSoFar, one_more, all_seen}
use Rattle.line_summary.proofs.lines.distinct_of.Goals as goal

pub loop-line-preserved : goal.loop-line-preserved
loop-line-preserved c =
    let lines = c.args.lines.now in
    let place = c.loop-line.line-index in
    let within = c.loop-line-test.true in
    let at : c.line-item.result ≡ get_or lines place c.line-item.result = c.line-item.is in
    let same : c.in_ok-bytes.bytes.items ≡ get_or lines place c.line-item.result =
    c.in_ok-bytes.ensures.items ∙ c.as_slice.ensures.items ∙ at in
    let there : Contains lines c.in_ok-bytes.bytes.items = subst (Contains lines) (sym same)
    (Contains-get_or lines place c.line-item.result within) in
    rw (take_more lines place c.line-item.result within, ← same, c.in-Ok.ensures.keys)
    (one_more (λ line. line.items) lines (take place lines) c.loop-line.distinct.keys c.in_ok-bytes.bytes there
    (rw (← c.in-Ok.ensures.keys) c.in-Ok.ensures.ordered) c.loop-line.invariant)

pub returns : goal.returns
returns c = record {
  distinct = all_seen (λ line. line.items) c.args.lines.now c.loop-line.distinct.keys
      (subst (λ seen. AreDistinctSoFar (λ line. line.items) c.args.lines.now seen c.loop-line.distinct.keys)
      (take_all c.loop-line.line-index c.args.lines.now c.loop-line-test.false) c.loop-line.invariant);
}
