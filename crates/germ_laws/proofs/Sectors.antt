-- Germs in the sectors between neighbouring rays.
pub mod Germ
pub mod Rays
pub mod Closed
pub mod JustRight
pub mod BesideRay
