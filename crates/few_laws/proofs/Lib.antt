pub mod Nodes
pub mod LeftOut
pub mod Seen
