-- Points that are on no edge and are no node.
pub mod Nodes
pub mod Ways
pub mod Points
