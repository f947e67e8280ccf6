-- The pair germs of two figures.
pub mod Along
pub mod Sectors
