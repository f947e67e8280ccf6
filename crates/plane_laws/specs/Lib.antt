pub mod Plane
pub mod Directions
pub mod Orders
pub mod Along
