pub mod Statuses
pub mod Text
pub mod Sources
pub mod Asking
pub mod Run
pub mod Steps
