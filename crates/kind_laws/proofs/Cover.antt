-- What the areas cover round a point decides whether it is interior to their union.
pub mod Neighbourhood
pub mod Germs
pub mod Sectors
pub mod BesideRay
pub mod Inside
