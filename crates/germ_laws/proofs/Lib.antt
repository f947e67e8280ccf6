pub mod Sectors
pub mod Room
pub mod Rays
