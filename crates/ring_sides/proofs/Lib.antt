pub mod Rays
pub mod Counting
pub mod Turned
pub mod Rows
pub mod Triangle
pub mod Laws
