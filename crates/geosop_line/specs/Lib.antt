pub mod Arguments
pub mod CommandLine
pub mod Figures
pub mod Numbers
pub mod Operations
pub mod Settings
pub mod Steps
