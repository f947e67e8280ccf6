use Rattle.std.proofs.Common.{◌≡◌, pos, Equal, w64, refl, sym, ◌∙◌, ap}
use Rattle.std.specs.Ordering.{bool_cmp, int_cmp}
use Rattle.whole_algebra.proofs.Computed.{read, product, difference, stored, via}
use Rattle.plane_laws.specs.Directions.{bend_of, past_half}
use Rattle.plane_exact.specs.Orders.{bend, compare_angles}
use Rattle.plane_exact.proofs.Angles.{compare_angles-same, same_compare_angles}
use Rattle.whole_algebra.proofs.Comparisons.{then_first, then_second}
use Rattle.plane_exact.proofs.Sizes.{way_size_across, way_size_above}
use Rattle.plane_exact.proofs.orders.cmp_turn.Goals as goal

-- by the halves, where they differ
default_order : (c : goal.In_default) → c.cmp.result ≡ compare_angles c.args.d c.args.e
default_order c =
    let d = c.args.d in
    let e = c.args.e in
    then_first (bool_cmp (past_half d.dx d.dy) (past_half e.dx e.dy)) (int_cmp (pos 0) (bend d e)) c.cmp.result
    (c.cmp.ensures ∙ (λ i. bool_cmp (c.is_past_half.ensures.half i) (c.is_past_half-2.ensures.half i))) c.in_default.not-Equal

pub returns-in_default : goal.returns-in_default
returns-in_default c = record {
  order = default_order c;
  same = (
    λ h. same_compare_angles c.args.d c.args.e (sym (default_order c) ∙ h),
    λ s. default_order c
        ∙ compare_angles-same c.args.d c.args.e s,
  );
}

-- by the cross product, where they are the same
equal_order : (c : goal.After-cmp-in-Equal) → c.cmp-in-Equal.result ≡ compare_angles c.args.d c.args.e
unfolding bend_of
equal_order c =
    let d = c.args.d in
    let e = c.args.e in
    let dx = read w64 d.dx (way_size_across d.dx d.dy d.way) refl in
    let dy = read w64 d.dy (way_size_above d.dx d.dy d.way) refl in
    let ex = read w64 e.dx (way_size_across e.dx e.dy e.way) refl in
    let ey = read w64 e.dy (way_size_above e.dx e.dy e.way) refl in
    let all = stored w64 (via c.cross.ensures.product (difference (product dx ey) (product dy ex))) refl in
    let halves : bool_cmp (past_half d.dx d.dy)
    (past_half e.dx e.dy) ≡ Equal = (λ i. bool_cmp (sym c.is_past_half.ensures.half i) (sym c.is_past_half-2.ensures.half i))
    ∙ sym c.cmp.ensures ∙ c.in-Equal.is in
    c.cmp-in-Equal.ensures ∙ ap (int_cmp (pos 0)) all.is
    ∙ sym (then_second (bool_cmp (past_half d.dx d.dy) (past_half e.dx e.dy)) (int_cmp (pos 0) (bend d e)) halves)

pub returns-in-Equal-clause-order : goal.returns-in-Equal-clause-order
returns-in-Equal-clause-order c = equal_order c

pub returns-in-Equal-clause-same : goal.returns-in-Equal-clause-same
returns-in-Equal-clause-same c =
    (λ h. same_compare_angles c.args.d c.args.e (sym (equal_order c) ∙ h), λ s. equal_order c ∙ compare_angles-same c.args.d c.args.e s)
