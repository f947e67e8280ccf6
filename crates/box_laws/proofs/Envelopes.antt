-- Envelopes: what a figure has lies in its envelopes.
pub mod Ways
pub mod Past
pub mod Hold
pub mod Frames
