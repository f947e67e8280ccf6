pub mod Edges
pub mod Entering
pub mod Clauses
pub mod Hands
