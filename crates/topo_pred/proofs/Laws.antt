-- The lemmas that proofs of other crates may cite.
pub use Rattle.topo_pred.proofs.Matrices.{itself, everywhere, everywhere-most}
