-- Turns, rises and shifts.
pub mod Turns
