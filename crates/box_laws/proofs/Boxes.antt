-- Boxes: their sides, what is in one, and what is near one.
pub mod Sides
pub mod Round
pub mod Edges
