-- How often the ray to the right of a point crosses the edges of a ring.
pub mod Tests
pub mod Cases
pub mod Bands
pub mod OneEdge
pub mod Flip
pub mod Ring
