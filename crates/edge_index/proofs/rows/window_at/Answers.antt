use Rattle.std.proofs.Common.{◌≡◌, ◌+◌, ◌-◌, ◌*◌, length, sym, ap, ap₂, ◌∙◌, arith}
use Rattle.plane_exact.specs.Windows.{join_boxes}
use Rattle.edge_index.specs.Rows.{leaf_window}
use Rattle.edge_index.proofs.Indexes.{joined_by_sides, window_joined}
use Rattle.edge_index.proofs.rows.window_at.Goals as goal

pub returns-then-place-count : goal.returns-then-place-count
returns-then-place-count c =
    let segs = c.args.segs.now in
    let leaves = c.args.leaves.now in
    let next : (2 * c.args.place + 2 - length leaves) + 1 ≡ 2 * c.args.place + 3 - length leaves = omega arith in
    let right = c.leaf_window-then-place-count.ensures.window ∙ ap (leaf_window segs leaves) next in
    let sides = c.join.ensures in
    let both = joined_by_sides c.join.result c.leaf_window.result c.leaf_window-then-place-count.result sides.low_x sides.low_y sides.high_x
    sides.high_y ∙ ap₂ join_boxes c.leaf_window.ensures.window right in
    record { window = both ∙ sym (window_joined segs leaves c.args.inner.now c.args.place c.if-place-inner.false c.if-place-count.true) }
