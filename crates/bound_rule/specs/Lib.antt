pub mod Positions
pub mod Ends
pub mod Counts
