use Rattle.geom_valid.proofs.CommonSegments.{near_within, some_near}
use Rattle.geom_valid.proofs.sharing.shares_with_some.Goals as goal

pub shares_at_some-requires-clause-places : goal.shares_at_some-requires-clause-places
shares_at_some-requires-clause-places c =
    near_within c.args.row.now.seg c.args.rows.now c.in_ok-places.places c.in_ok-places.ensures.near

pub returns : goal.returns
returns c = record {
  share = (
    λ t. let s = c.shares_at_some.ensures.share.0 t in record { place = s.place; at = s.at },
    λ h. c.shares_at_some.ensures.share.1 (some_near c.args.rows.now c.args.row.now c.in_ok-places.places c.in_ok-places.ensures.near h),
  );
}
