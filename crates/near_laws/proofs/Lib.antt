pub mod Far
pub mod Beyond
pub mod Decide
