pub mod Parts
pub mod Cells
pub mod Patterns
pub mod Names
pub mod Common
