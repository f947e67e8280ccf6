pub mod Touches
pub mod Validity
pub mod Indexed
pub mod AreaEdges
