-- Edges that meet a way: their ends are positions, and one that meets a way free of nodes holds all of it.
pub mod Ends
pub mod LineOrder
pub mod Stays
