-- The lemmas on positions, nodes and the code's numbers that other crates may cite.
pub use Rattle.plane_exact.proofs.Angles.{compare_angles_total, compare_angles-same, same_compare_angles}
pub use Rattle.plane_exact.proofs.Boxes.{diagonal_window, least_of_ends, least_of_point, in_window-mix, common_point, low_at_most_high}
pub use Rattle.plane_exact.proofs.Boxes.{join_holds_first, join_holds_second, within_holds}
pub use Rattle.plane_exact.proofs.NodeValues.{one_node, node_at_position}
pub use Rattle.plane_exact.proofs.Positions.{turn-positions, shift-to_position, rise-to_position}
pub use Rattle.plane_exact.proofs.Positions.{shift-positions, rise-positions}
pub use Rattle.plane_exact.proofs.Reduced.{IsReduced-divided}
pub use Rattle.plane_exact.proofs.SignFacts.{zero_sign}
pub use Rattle.plane_exact.proofs.Sizes.{abscissa_size, height_size, numerator_size, weight_size}
