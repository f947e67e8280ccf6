-- Sets of points: their dimension, and finite ones.
pub mod Dimensions
pub mod FinitePoints
