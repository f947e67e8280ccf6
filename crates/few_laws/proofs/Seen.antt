-- What is seen at any node is seen at one of the few.
pub mod Nearest
pub mod Beside
pub mod Turned
pub mod Few
