-- The kind of a point stays along a way that meets nothing, and so it settles along every direction.
pub mod OffEdges
pub mod OnEdge
pub mod Germs
pub mod Seen
