pub mod Sides
pub mod Meets
