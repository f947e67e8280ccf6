use Rattle.std.proofs.Common.{◌∙◌, ◌<◌, ◌+◌, Bool, not, ap, length, get_or, drop, List, [], ◌++◌, Option, sym, subst, arith}
use Rattle.plane_exact.specs.declared.point.Pt.{Pt}
use Rattle.plane_exact.specs.declared.window.Window.{Window}
use Rattle.point_set.specs.Extents.{IsEnvelope, keep_if, moving_positions}
use Rattle.point_set.specs.Lines.{is_still}
use Rattle.figure_extent.proofs.Lines.{kept_in_front, kept, left_out}
use Rattle.figure_extent.proofs.SoFar.{one_item_more}
use Rattle.figure_extent.proofs.parts.of_moving.Goals as goal
use Rattle.figure_extent.proofs.parts.of_moving.Goals.{then-not-is_still, else-not-is_still}

pub loop-line-preserved : goal.loop-line-preserved
loop-line-preserved c =
    let lines = c.args.lines.now in
    let place = c.loop-line.line-index in
    let line = c.line-item.result in
    let keeps : Bool = not (is_still line) in
    let own : List Pt = keep_if keeps line [] in
    let old = c.loop-line.envelope in
    let same = c.as_slice-line-items.ensures.items in
    let below : place < length lines = omega (arith, ap length same) in
    let here = c.line-item.is ∙ ap (λ (items : List (List Pt)). get_or items place line) same in
    one_item_more moving_positions lines place line own old c.if-not-is_still.envelope below here
    (kept_in_front keeps line (moving_positions (drop (place + 1) lines)))
    (elim c.if-not-is_still.branch [
      | then-not-is_still w ↦
          kept keeps line old c.if-not-is_still.envelope (ap not (sym c.is_still.ensures.still ∙ w.if-not-is_still.true))
          (λ xs h.
          subst (λ (new : Option Window). IsEnvelope (xs ++ line) new) (sym w.envelope-is)
          (w.joined-envelope.ensures.envelope xs line h w.of_way.ensures.envelope))
      | else-not-is_still w ↦
          left_out keeps line old c.if-not-is_still.envelope (ap not (sym c.is_still.ensures.still ∙ w.if-not-is_still.false))
          w.envelope-is
    ]) c.loop-line.invariant
