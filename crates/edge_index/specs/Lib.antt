pub mod Trees
pub mod Segments
pub mod Walks
pub mod Rows
pub mod Index
