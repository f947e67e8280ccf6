mod Built
mod Enumerated
mod Filling
mod Folds
mod Hits
pub mod Levels
mod Looks
mod Slices
