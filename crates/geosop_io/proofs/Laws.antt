-- What other crates may cite of this one's proofs.
pub use Rattle.geosop_io.proofs.Taken.{after_taking-nil, after_taking-append}
