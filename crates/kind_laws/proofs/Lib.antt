pub mod Hands
pub mod Cover
pub mod Location
