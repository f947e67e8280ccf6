-- The walk round the rays of a fan: which sectors are inside an area.
pub mod Germ
pub mod SectorHands
