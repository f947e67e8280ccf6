use Rattle.std.proofs.Common.{◌≡◌, ◌+◌, ◌-◌, ◌*◌, ℕ, List, ap, subst, ◌∙◌, arith}
use Rattle.plane_exact.specs.declared.window.Window.{Window}
use Rattle.edge_index.specs.Rows.{window_at}
use Rattle.edge_index.proofs.Indexes.{AreJoinedFrom, joined_by_sides, joined_more}
use Rattle.edge_index.proofs.rows.inner_windows.Goals as goal

pub loop-place-preserved : goal.loop-place-preserved
loop-place-preserved c =
    let segs = c.args.segs.now in
    let leaves = c.args.leaves.now in
    let inner = c.loop-place.inner.items in
    let place = c.loop-place.place - 1 in
    let next : c.loop-place.place ≡ place + 1 = omega arith in
    let before = subst (λ (from : ℕ). AreJoinedFrom segs leaves inner from) next c.loop-place.invariant in
    let left = c.window_at-left.ensures.window
    ∙ ap (λ (ws : List Window). window_at segs leaves ws (2 * place + 1)) c.deref.ensures.value in
    let right = c.window_at-right.ensures.window
    ∙ ap (λ (ws : List Window). window_at segs leaves ws (2 * place + 2)) c.deref-in-loop-place.ensures.value in
    let sides = c.join.ensures in
    let both = joined_by_sides c.join.result c.window_at-left.result c.window_at-right.result sides.low_x sides.low_y sides.high_x
    sides.high_y in
    joined_more segs leaves inner place c.join.result c.window_at-left.result c.window_at-right.result before
    (omega (arith, before.count)) left right both
