-- What other crates may cite of this one's proofs.
pub use Rattle.ring_sides.proofs.Rows.{few_holes, row_owners, all_from_places}
