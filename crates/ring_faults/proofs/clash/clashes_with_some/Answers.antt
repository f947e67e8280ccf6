use Rattle.std.proofs.Common.{List, ℕ, length, get_or, refl, ap, sym, ◌∙◌, subst, arith}
use Rattle.std.proofs.lemmas.Bool.{false≢true, true≢false}
use Rattle.ring_faults.specs.Clashes.{ClashAt}
use Rattle.ring_faults.proofs.ClashSearch.{no_clash_more, clash_found, no_clash_there}
use Rattle.ring_faults.proofs.clash.clashes_with_some.Goals as goal

pub returns-then-clash_at : goal.returns-then-clash_at
returns-then-clash_at c =
    let k = c.loop-place.place-index in
    let same = c.as_slice-place-items.ensures.items in
    let at = c.clash_at.ensures.clash.0 c.if-clash_at.true in
    record {
      clash = (
        λ _. clash_found c.args.clash c.args.edges.now c.args.i c.args.places.now k
            (let long = ap length same in omega (arith, long, c.loop-place-test.true))
            (subst (λ (places : List ℕ). ClashAt c.args.clash c.args.edges.now c.args.i (get_or places k 0)) same at),
        λ _. refl,
      );
    }

pub loop-place-preserved : goal.loop-place-preserved
loop-place-preserved c =
    let k = c.loop-place.place-index in
    no_clash_more c.args.clash c.args.edges.now c.args.i c.args.places.now k c.loop-place.invariant
    (λ at.
    let here = subst (λ (places : List ℕ). ClashAt c.args.clash c.args.edges.now c.args.i (get_or places k 0))
    (sym c.as_slice-place-items.ensures.items) at in
    true≢false (sym (c.clash_at.ensures.clash.1 here) ∙ c.if-clash_at.false))

pub returns : goal.returns
returns c =
    record {
      clash = (
        λ t. absurd (false≢true t),
        λ h. absurd (no_clash_there c.args.clash c.args.edges.now c.args.i c.args.places.now c.loop-place.place-index
            (let long = ap length c.as_slice-place-items.ensures.items in omega (arith, long, c.loop-place-test.false))
            c.loop-place.invariant h),
      );
    }
