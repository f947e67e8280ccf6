pub mod Grounds
pub mod Boxes
pub mod Faults
pub mod Sharing
pub mod Elements
