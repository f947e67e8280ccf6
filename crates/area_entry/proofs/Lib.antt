mod AreaFans
mod Bends
mod Entries
pub mod Laws
mod Loops
mod PlacedRows
mod RowPlaces
mod Searches
mod SectionLists
mod SectorPlaces
