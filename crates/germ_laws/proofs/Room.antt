-- Near a point everything is a cone: what holds at a near point holds along its direction.
pub mod Starry
pub mod Germs
pub mod TwoSteps
pub mod Lonely
pub mod Ways
