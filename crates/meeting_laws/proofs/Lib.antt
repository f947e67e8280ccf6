pub mod Ways
pub mod Meetings
