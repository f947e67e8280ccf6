-- Near a point only the edges through it matter.
pub mod Edges
