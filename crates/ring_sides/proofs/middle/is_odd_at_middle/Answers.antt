use Rattle.std.proofs.Common.{◌≡◌, ◌+◌, drop, get_or, pos, ap, sym, ◌∙◌, arith}
use Rattle.plane_exact.specs.declared.point.Pt.{Pt}
use Rattle.point_set.specs.Rings.{crosses, differ, edges_after, is_odd}
use Rattle.ring_sides.specs.Middles.{middle_of}
use Rattle.ring_sides.proofs.Counting.{odd_step, toggled, kept}
use Rattle.ring_sides.proofs.middle.is_odd_at_middle.Goals as goal
use Rattle.ring_sides.proofs.middle.is_odd_at_middle.Goals.{then-crosses_at_middle, else-crosses_at_middle}

pub loop-p-preserved : goal.loop-p-preserved
loop-p-preserved c =
    let d : Pt = record { x = pos 0; y = pos 0 } in
    let p = get_or c.args.others.now c.loop-p.p-index d in
    let m = middle_of c.args.edge in
    let step = odd_step m c.args.first c.args.others.now c.loop-p.last c.loop-p.p-index c.loop-p.odd d
    (omega arith) c.loop-p.invariant.odd in
    record {
      last = c.requires.others _ _ (omega arith);
      odd = step ∙ ap (λ z. differ z (is_odd m (edges_after p (drop (c.loop-p.p-index + 1) c.args.others.now))))
          (elim c.if-crosses_at_middle.branch as
          (λ _. differ c.loop-p.odd (crosses m (record { a = c.loop-p.last; b = p })) ≡ c.if-crosses_at_middle.odd) [
            | then-crosses_at_middle w ↦ toggled c.loop-p.odd (crosses m (record { a = c.loop-p.last; b = p }))
                (sym c.crosses_at_middle.ensures.crosses ∙ w.if-crosses_at_middle.true) ∙ sym w.odd-is
            | else-crosses_at_middle w ↦ sym
                (kept c.loop-p.odd (crosses m (record { a = c.loop-p.last; b = p }))
                (sym c.crosses_at_middle.ensures.crosses ∙ w.if-crosses_at_middle.false)) ∙ sym w.odd-is
          ]);
    }
