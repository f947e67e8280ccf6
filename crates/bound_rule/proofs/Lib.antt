pub mod Counted
pub mod LineEnds
pub mod AtSpots
mod Items
