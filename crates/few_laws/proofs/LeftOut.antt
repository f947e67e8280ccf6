-- A node that isn't one of the few, and what is seen of two figures there.
pub mod Bare
pub mod Edges
pub mod Samples
