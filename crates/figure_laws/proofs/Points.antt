-- Where a point lies in a figure is said of the point, and the kinds of location exclude each other.
pub mod Same
pub mod Kinds
