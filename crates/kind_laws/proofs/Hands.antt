-- The germs beside an edge of a valid area, by the hand of the edge.
pub mod InSector
pub mod BeforeRay
