-- What other crates may cite: the figures of each sample are well shaped and valid.
pub use Rattle.sample_figures.proofs.SoundFigures.{sample_is_shaped, sample_is_valid}
