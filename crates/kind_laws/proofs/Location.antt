-- The kind of a point in a figure is decided: the rays of all edges, and what is covered round a point.
pub mod RayLists
pub mod EdgeRays
pub mod Decided
