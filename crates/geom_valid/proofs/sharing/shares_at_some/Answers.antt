use Rattle.std.proofs.Common.{ℕ, List, length, get_or, refl, sym, ◌∙◌, subst}
use Rattle.std.specs.List.{Contains}
use Rattle.std.proofs.lemmas.Bool.{false≢true}
use Rattle.std.proofs.lemmas.Option.{slice_get-get_or, slice_get_read}
use Rattle.point_set.specs.declared.edge.Edge.{Edge}
use Rattle.point_set.specs.Validity.{ShareSegment}
use Rattle.figure_laws.proofs.Lists.Places.{some_same}
use Rattle.geom_valid.specs.Sharing.{SharesAtPlace}
use Rattle.geom_valid.proofs.RingLists.{none_at_last, none_on}
use Rattle.geom_valid.proofs.sharing.shares_at_some.Goals as goal

pub loop-place-preserved : goal.loop-place-preserved
loop-place-preserved c =
    let e = c.args.row.now.seg in
    let places = c.as_slice-place-items.result.now in
    let i = c.loop-place.place-index in
    none_on (SharesAtPlace e c.args.rows.now) places i (get_or places i 0) c.loop-place.invariant
    (slice_get-get_or places i 0 c.loop-place-test.true)
    (λ h. false≢true (sym c.if-share_segment.false ∙ c.share_segment.ensures.share.1
    (subst (λ (row : Edge). ShareSegment e row.seg) (some_same (sym h.row_is ∙ c.at.ensures.row)) h.share)))

pub returns : goal.returns
returns c =
    let places = c.as_slice-place-items.result.now in
    let none = none_at_last (SharesAtPlace c.args.row.now.seg c.args.rows.now) places c.loop-place.place-index c.loop-place.invariant
    c.loop-place-test.false in
    record {
      share = (
        λ t. absurd (false≢true t),
        λ h.
            let there = subst (λ (ks : List ℕ). Contains ks h.place) (sym c.as_slice-place-items.ensures.items) h.there in
            absurd (none there.0 h.place (slice_get_read places (length places) there.0 h.place refl there.1 (sym there.2)) h.at),
      );
    }
