pub mod Dimensions
pub mod Laws
pub mod Mapped
pub mod Matrices
pub mod PatternTexts
pub mod PatternFaults
pub mod Ranges
