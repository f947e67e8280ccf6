pub use Rattle.point_set.specs.Sides
pub mod Middles
pub mod Rows
