-- The edges of a clean area: their ends differ, near a point of one no other is met, and they are few.
pub mod Moving
pub mod Alone
pub mod Sharing
pub mod Few
