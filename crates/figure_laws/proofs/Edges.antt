-- The edges of a figure with their owners.
pub mod Owners
pub mod Lists
pub mod Limits
pub mod Windows
pub mod Lines
