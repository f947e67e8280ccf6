-- Lists by places.
pub mod Search
pub mod Places
pub mod Least
pub mod Items
pub mod Counts
