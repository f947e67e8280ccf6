pub use Rattle.ring_sides.specs.Rows
pub mod Areas
pub mod Nearby
pub mod Plains
pub mod Shells
