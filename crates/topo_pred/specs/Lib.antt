pub mod Later
pub mod Settled
pub mod Values
