-- Rays round a point: every direction is on one or in a sector.
pub mod InTurn
pub mod Around
pub mod WayTo
pub mod Ways
pub mod Neighbours
pub mod Places
