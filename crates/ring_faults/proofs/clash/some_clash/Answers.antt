use Rattle.std.proofs.Common.{length, refl, sym, ◌∙◌, subst, arith}
use Rattle.std.proofs.lemmas.Bool.{false≢true, true≢false}
use Rattle.std.proofs.lemmas.Option.{slice_get_read}
use Rattle.ring_faults.specs.Clashes.{SomeClash}
use Rattle.ring_faults.proofs.ClashSearch.{no_clash_near, no_clashes_more, no_clashes}
use Rattle.ring_faults.proofs.NearPlaces.{near_within}
use Rattle.ring_faults.proofs.clash.some_clash.Goals as goal

pub clashes_with_some-requires-clause-places : goal.clashes_with_some-requires-clause-places
clashes_with_some-requires-clause-places c =
    near_within c.at.result.now.seg c.in_ok-near.near.edges c.places_near.new.out c.in_ok-places_near.ensures.near

pub returns-then-clashes_with_some : goal.returns-then-clashes_with_some
returns-then-clashes_with_some c =
    let edges = c.in_ok-near.near.edges in
    let s = c.clashes_with_some.ensures.clash.0 c.if-clashes_with_some.true in
    let some : SomeClash c.args.clash edges = record { i = c.loop-i.i; j = s.place; clash_at = s.clash_at } in
    record { clash = (λ _. subst (SomeClash c.args.clash) c.in_ok-near.ensures.edges some, λ _. refl) }

pub loop-i-preserved : goal.loop-i-preserved
loop-i-preserved c =
    let edges = c.in_ok-near.near.edges in
    let i = c.loop-i.i in
    let e = c.at.result.now in
    let e_is = slice_get_read edges (length edges) i e refl (omega arith) c.at.ensures.item in
    no_clashes_more c.args.clash edges i c.loop-i.invariant
    (no_clash_near c.args.clash edges i e c.places_near.new.out e_is c.in_ok-places_near.ensures.near
    (λ h. true≢false (sym (c.clashes_with_some.ensures.clash.1 h) ∙ c.if-clashes_with_some.false)))

pub returns : goal.returns
returns c =
    record {
      clash = (
        λ t. absurd (false≢true t),
        λ h.
            let some = subst (SomeClash c.args.clash) (sym c.in_ok-near.ensures.edges) h in
            absurd (no_clashes c.args.clash c.in_ok-near.near.edges c.loop-i.i (omega arith) c.loop-i.invariant some.i some.j
            some.clash_at),
      );
    }
