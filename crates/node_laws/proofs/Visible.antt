-- From each point that is no node a node is seen.
pub mod FirstHit
pub mod SeenNode
pub mod OffEdges
pub mod OnEdge
