pub mod Levels
pub mod Trees
pub mod Heights
pub mod Steps
pub mod Parts
pub mod Rows
pub mod Index
