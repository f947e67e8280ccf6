use Rattle.std.proofs.Common.{List, get_or, refl, sym, ◌∙◌, subst}
use Rattle.std.proofs.lemmas.Bool.{false≢true}
use Rattle.std.proofs.lemmas.Option.{slice_get-get_or}
use Rattle.point_set.specs.declared.edge.Edge.{Edge}
use Rattle.point_set.specs.Validity.{IsAtPlace}
use Rattle.geom_valid.specs.Sharing.{SharesWithRow}
use Rattle.geom_valid.proofs.CommonSegments.{no_rows_share, rows_share_at}
use Rattle.geom_valid.proofs.RingLists.{none_at_last, none_on}
use Rattle.geom_valid.proofs.sharing.some_row_shares.Goals as goal

pub returns-then-branch : goal.returns-then-branch
returns-then-branch c =
    let items = c.as_slice-row-items.result.now in
    let i = c.loop-row.row-index in
    let same = c.as_slice-row-items.ensures.items ∙ c.rows.ensures.rows in
    record {
      share = (
        λ _. rows_share_at c.args.one.now c.args.other.now items same i _ c.loop-row-test.true
            (c.in_ok-shares_with_some.ensures.share.0 c.if-branch.true),
        λ _. refl,
      );
    }

pub loop-row-preserved : goal.loop-row-preserved
loop-row-preserved c =
    let items = c.as_slice-row-items.result.now in
    let i = c.loop-row.row-index in
    none_on (SharesWithRow c.args.other.now) items i (get_or items i _) c.loop-row.invariant
    (slice_get-get_or items i _ c.loop-row-test.true)
    (λ h. false≢true (sym c.if-branch.false ∙ c.in_ok-shares_with_some.ensures.share.1 h))

pub returns : goal.returns
returns c =
    let items = c.as_slice-row-items.result.now in
    let none = none_at_last (SharesWithRow c.args.other.now) items c.loop-row.row-index c.loop-row.invariant c.loop-row-test.false in
    let same = c.as_slice-row-items.ensures.items ∙ c.rows.ensures.rows in
    record {
      share = (
        λ t. absurd (false≢true t),
        λ h.
            absurd (no_rows_share c.args.one.now c.args.other.now
            (λ i row is. none i row (subst (λ (rows : List Edge). IsAtPlace rows i row) (sym same) is)) h),
      );
    }
