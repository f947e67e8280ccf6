-- The lemmas on faults that other crates may cite.
pub use Rattle.geom_valid.proofs.FirstFaults.{no_fault, this_fault}
