pub mod Cells
pub mod Prepared
pub mod Sessions
