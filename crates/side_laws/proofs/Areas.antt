-- The hands of the edges of an area.
pub mod Hands
