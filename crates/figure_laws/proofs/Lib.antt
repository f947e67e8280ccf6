pub mod Points
pub mod Sets
pub mod Edges
pub mod Lists
pub mod Valid
