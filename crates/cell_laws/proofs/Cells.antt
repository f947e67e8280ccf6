-- What two figures have in a cell is what is seen of it at their nodes.
pub mod Outside
pub mod Bare
pub mod Seen
pub mod Dimensions
pub mod Matrix
