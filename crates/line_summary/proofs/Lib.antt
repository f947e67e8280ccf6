pub mod Distinct
pub mod Told
