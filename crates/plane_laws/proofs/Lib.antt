pub mod Points
pub mod Turns
pub mod Segments
pub mod Directions
pub mod Near
