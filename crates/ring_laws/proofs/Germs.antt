-- The location near a point along a direction.
pub mod Edges
pub mod Areas
