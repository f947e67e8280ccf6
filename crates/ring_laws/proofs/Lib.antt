pub mod Parity
pub mod Room
pub mod Germs
