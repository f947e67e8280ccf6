-- The edge directions at a point, and the sectors between them.
pub mod Lowest
pub mod Exist
pub mod Middles
