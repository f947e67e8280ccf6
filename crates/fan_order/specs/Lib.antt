pub mod Rays
pub mod Fans
pub mod Sections
pub mod Passes
