-- The lemmas that proofs of other crates may cite.
pub use Rattle.union_locator.proofs.Items.{item_read}
pub use Rattle.union_locator.proofs.MeetingPlaces.{image_at, places_of_rows}
pub use Rattle.union_locator.proofs.NearShells.{far_area, near_areas}
