-- The labels of rays and sectors are the germs of a figure.
pub mod LineGerms
pub mod OnRays
pub mod Labels
pub mod Boundary
