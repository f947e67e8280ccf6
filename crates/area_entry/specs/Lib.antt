pub mod Grounds
pub mod RowSections
pub mod Entries
