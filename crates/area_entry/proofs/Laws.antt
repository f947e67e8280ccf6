-- What other crates may cite of this one's proofs.
pub use Rattle.area_entry.proofs.PlacedRows.{near_row, places_within}
pub use Rattle.area_entry.proofs.RowPlaces.{HasRow, row_of_seg, seg_there}
