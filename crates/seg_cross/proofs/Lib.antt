pub mod Means
pub mod Overlaps
pub mod Meetings
pub mod Laws
