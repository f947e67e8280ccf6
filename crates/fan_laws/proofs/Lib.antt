pub mod Fans
pub mod Walks
pub mod Labels
