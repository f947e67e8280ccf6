use Rattle.std.proofs.Common.{◌+◌, ◌-◌, ◌/◌, ◌<ℤ◌, ◌≤ℤ◌, subst, arith, rules}
use Rattle.std.proofs.lemmas.Int.{ints}
use Rattle.std.proofs.lemmas.Option.{slice_get_within, get_or_from_slice_get}
use Rattle.y_index.proofs.Looks.{rooted, left_part, right_part, used_never, folded_none, folded_left, used_left, folded, used_both}
use Rattle.y_index.proofs.Looks.{used_both_low}
use Rattle.y_index.specs.declared.rows.SpanRow.{SpanRow}
use Rattle.y_index.proofs.stabbing.+stab_part.Goals as goal

pub returns-then-root-level-clause-fold : goal.returns-then-root-level-clause-fold
returns-then-root-level-clause-fold g t c =
    let r = rooted (g.met.T.Spans.tree c.args.rows.now) c.requires.part c.if-from-to.false c.requires.within c.look-root.ensures.row in
    let most : c.look-root.result.most <ℤ c.args.level.ceiling = omega (arith, ints) in
    folded_none c.args.level.floor c.args.level.ceiling r _ c.args.state most

pub stab_part-before-requires : goal.stab_part-before-requires
stab_part-before-requires g t c =
    let r = rooted (g.met.T.Spans.tree c.args.rows.now) c.requires.part c.if-from-to.false c.requires.within c.look-root.ensures.row in
    let part = left_part r in
    search rules

pub returns-then-level-root : goal.returns-then-level-root
returns-then-level-root g t c =
    let r = rooted (g.met.T.Spans.tree c.args.rows.now) c.requires.part c.if-from-to.false c.requires.within c.look-root.ensures.row in
    let low : c.args.level.floor <ℤ c.look-root.result.low = omega (arith, ints) in
    record {
      fold =
          folded_left c.args.level.floor c.args.level.ceiling r low _ c.args.state c.stab_part-before.result
          c.stab_part-before.ensures.fold;
      looked = omega arith;
      used = used_left c.args.level.floor c.args.level.ceiling r low _ _ _ c.look-root.ensures.used c.stab_part-before.ensures.used;
      used_low = used_never c.args.level.floor c.args.level.ceiling r low _ _;
    }

pub step_at-through-requires-clause-callable : goal.step_at-through-requires-clause-callable
step_at-through-requires-clause-callable g t c =
    let rows = g.T.Spans.rows c.args.rows.now in
    let middle = c.args.from + (c.args.to - c.args.from) / 2 in
    let root = c.look-root.result in
    let within = slice_get_within rows middle root c.look-root.ensures.row in
    subst (λ (row : SpanRow). goal.F-pre g c.args.step.now c.stab_part-before.result row.item)
    (get_or_from_slice_get rows middle root root c.look-root.ensures.row)
    (c.requires.callable c.stab_part-before.result middle root within)

pub stab_part-requires : goal.stab_part-requires
stab_part-requires g t c =
    let r = rooted (g.met.T.Spans.tree c.args.rows.now) c.requires.part c.if-from-to.false c.requires.within c.look-root.ensures.row in
    let part = right_part r in
    search rules

pub returns : goal.returns
returns g t c =
    let r = rooted (g.met.T.Spans.tree c.args.rows.now) c.requires.part c.if-from-to.false c.requires.within c.look-root.ensures.row in
    let low : c.look-root.result.low ≤ℤ c.args.level.floor = omega (arith, ints) in
    let most : c.args.level.ceiling ≤ℤ c.look-root.result.most = omega (arith, ints) in
    let before = c.stab_part-before.ensures in
    let after = c.stab_part.ensures in
    record {
      fold = folded c.args.level.floor c.args.level.ceiling r _ _ _ _ _ before.fold c.step_at-through.ensures.fold after.fold;
      looked = omega arith;
      used = used_both c.args.level.floor c.args.level.ceiling r low _ _ _ _ c.look-root.ensures.used before.used_low after.used;
      used_low =
          used_both_low c.args.level.floor c.args.level.ceiling r low _ _ _ _ c.look-root.ensures.used before.used_low most after.used_low;
    }
