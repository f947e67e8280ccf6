-- The few nodes are nodes, are decided, and stand in a finite list.
pub mod Crossings
pub mod Decided
