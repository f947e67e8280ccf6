pub mod Capped
pub mod Cuts
pub mod Digits
pub mod Forms
pub mod Shifts
