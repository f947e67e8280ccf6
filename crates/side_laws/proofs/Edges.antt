-- Beside one edge of a ring.
pub mod Places
pub mod Germ
pub mod Beside
pub mod Parted
pub mod Strip
