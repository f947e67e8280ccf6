-- From the sections of a fan to its rays, and the germs beside a ray by the hands of its sections.
pub mod Rays
pub mod Hands
pub mod Added
pub mod Directions
