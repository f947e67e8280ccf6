-- The lemmas that proofs of other crates may cite.
pub use Rattle.im_matrix.proofs.Dimensions.{rank-most, rank-greater, greater-least, is_present-later}
pub use Rattle.im_matrix.proofs.Matrices.{matrix_by, dimension_at-matrix_by, same_cells, same_cell?}
pub use Rattle.im_matrix.proofs.Ranges.{accepts-range}
