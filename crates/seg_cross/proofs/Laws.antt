-- The lemmas on overlaps that other crates may cite.
pub use Rattle.seg_cross.proofs.Overlaps.{overlap_ends_apart, overlap_held}
