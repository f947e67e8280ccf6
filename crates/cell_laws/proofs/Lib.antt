pub mod Free
pub mod Directions
pub mod Germs
pub mod Samples
pub mod Cells
