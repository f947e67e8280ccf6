-- Each distinct line is told with how often it is there, and at the end how many lines there are.
use Rattle.std.proofs.Common.{rules, ◌≡◌, ◌∙◌, ◌++◌, ◌∷◌, [], map, flat_map, ap, sym, subst}
use Rattle.std.specs.Map.Iter.{deref}
use Rattle.std.proofs.lemmas.List.{map-append}
use Rattle.std.proofs.lemmas.Simd.{map-map}
use Rattle.std.proofs.lemmas.Map.Iter.{iter_end}
use Rattle.line_summary.specs.Summary.{lines_of, tally_of, total_of, AreDistinctOf}
use Rattle.line_summary.proofs.Told.{told_more}
use Rattle.line_summary.proofs.summary.summary_of.Goals as goal

pub loop-line-preserved : goal.loop-line-preserved
loop-line-preserved c =
    let all = lines_of c.args.text.now in
    let line = c.in-Some.line.now.items in
    let same : c.as_slice-in-loop-line.result.now ≡ all = c.as_slice-in-loop-line.ensures.items ∙ c.in_ok-lines.ensures.lines in
    let bytes : c.as_slice-in-loop-line-2.result.now ≡ line = c.as_slice-in-loop-line-2.ensures.value in
    rw (map-append (λ line. line.now.items) c.loop-line.yielded (c.in-Some.line ∷ []))
    (told_more (tally_of all) (map (λ line. line.now.items) c.loop-line.yielded) line c.loop-line.summary.items c.push_tally.new.text.items
    c.loop-line.invariant (c.in_ok-push_tally.ensures.told ∙ (λ i. c.loop-line.summary.items ++ tally_of (same i) (bytes i))))

pub returns : goal.returns
returns c =
    let all = lines_of c.args.text.now in
    let ended : map deref c.loop-line.yielded ≡ c.in_ok-distinct.distinct.keys = search (rules, iter_end) in
    let same : c.as_slice.result.now ≡ all = c.as_slice.ensures.items ∙ c.in_ok-lines.ensures.lines in
    let same_again : c.as_slice-2.result.now ≡ all = c.as_slice-2.ensures.items ∙ c.in_ok-lines.ensures.lines in
    let told : map (λ line. line.now.items) c.loop-line.yielded ≡ map (λ line. line.items) c.in_ok-distinct.distinct.keys =
    sym (map-map (λ line. line.items) deref c.loop-line.yielded) ∙ ap (map (λ line. line.items)) ended in
    record {
      summary = record {
        distinct = map (λ line. line.items) c.in_ok-distinct.distinct.keys;
        are_distinct = subst (λ lines. AreDistinctOf lines (map (λ line. line.items) c.in_ok-distinct.distinct.keys)) same
            c.in_ok-distinct.ensures.distinct;
        spelled = c.in_ok-push_total.ensures.told ∙ ap (λ text. text ++ total_of c.as_slice-2.result.now) c.loop-line.invariant
            ∙ (λ i. flat_map (tally_of all) (told i) ++ total_of (same_again i));
      };
    }
