-- What is seen of two figures at a point.
pub mod Seen
pub mod Same
pub mod Decided
