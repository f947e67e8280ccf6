-- Segments: mixes of points, what is on a segment, the order along one, lines, and crossings.
pub mod Mixes
pub mod On
pub mod Onto
pub mod Order
pub mod Lines
pub mod Crossings
