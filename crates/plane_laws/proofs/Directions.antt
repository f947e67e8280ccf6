-- Directions and the order of their angles.
pub mod Angles
