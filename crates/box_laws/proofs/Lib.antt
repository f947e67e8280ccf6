pub mod Boxes
pub mod Envelopes
