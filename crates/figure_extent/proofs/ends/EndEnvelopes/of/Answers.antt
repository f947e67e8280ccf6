use Rattle.std.proofs.Common.{◌∙◌, ◌<◌, ◌+◌, ap, length, get_or, drop, List, arith}
use Rattle.plane_exact.specs.declared.point.Pt.{Pt}
use Rattle.point_set.specs.Extents.{boundary_ends}
use Rattle.point_set.specs.Lines.{ends_of, ends_of_lines}
use Rattle.figure_extent.specs.Kept.{ends_under}
use Rattle.figure_extent.proofs.Lines.{boundary_ends_of, ends_append}
use Rattle.figure_extent.proofs.SoFar.{one_item_more}
use Rattle.figure_extent.proofs.ends.EndEnvelopes.of.Goals as goal

pub loop-line-preserved : goal.loop-line-preserved
loop-line-preserved c = λ rule.
    let f = c.args.figure.now in
    let all = ends_of_lines f.lines in
    let place = c.loop-line.line-index in
    let line = c.line-item.result in
    let same = c.as_slice-line-items.ensures.items in
    let below : place < length f.lines = omega (arith, ap length same) in
    let here = c.line-item.is ∙ ap (λ (items : List (List Pt)). get_or items place line) same in
    one_item_more (boundary_ends_of rule f) f.lines place line (boundary_ends rule all (ends_of line))
    (ends_under rule c.loop-line.envelopes) (ends_under rule c.with_line-envelopes.result) below here
    (ends_append rule all (ends_of line) (ends_of_lines (drop (place + 1) f.lines)))
    (c.with_line-envelopes.ensures.more f c.requires.ends rule) (c.loop-line.invariant rule)
