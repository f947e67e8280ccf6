mod ByRows
mod Differences
mod RowEdges
mod ShapedEdges
mod Tally
pub mod Touching
mod ValidAlone
mod ValidLocation
