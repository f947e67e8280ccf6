-- The lemmas on sections, walks and searches that other crates may cite.
pub use Rattle.fan_order.proofs.EdgeWays.{across_is, above_is, IsWay-between, IsShort-section}
pub use Rattle.fan_order.proofs.SamePlaces.{same_by_test}
pub use Rattle.fan_order.proofs.Walks.{same_which, same_direction, find_along, HasWalk, walk_exists, walk_parts, walk_joined, walk_unique}
