pub mod Boxes
pub mod SoFar
pub mod Lines
