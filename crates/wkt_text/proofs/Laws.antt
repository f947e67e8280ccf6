-- The lemmas on texts, their tokens and their faults that other crates may cite.
pub use Rattle.wkt_text.proofs.Progress.{one_reading, lexeme_moves}
pub use Rattle.wkt_text.proofs.Exact.{white_unread, one_fault, type_of_geometry, spelling_first, type_is_no_end}
