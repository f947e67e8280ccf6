-- What is near a point: affine functions, near points, and the points v + d/n.
pub mod Parted
pub mod Near
pub mod Away
pub mod Triangles
