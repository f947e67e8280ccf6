-- What the envelopes tell of two figures outside of their common part is there.
pub mod Positions
pub mod Kept
pub mod Ways
pub mod Lines
pub mod Inside
pub mod Rays
pub mod Boundary
pub mod Corners
pub mod Areas
pub mod Shown
