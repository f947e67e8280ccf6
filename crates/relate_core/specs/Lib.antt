pub mod Tables
pub mod NodeSets
pub mod Taking
pub mod Answers
pub mod Looks
