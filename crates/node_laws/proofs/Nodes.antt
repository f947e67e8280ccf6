-- Nodes are decided and finite.
pub mod Edges
pub mod Positions
pub mod Decided
pub mod Finite
