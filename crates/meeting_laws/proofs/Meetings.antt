-- The first point at which a way meets edges.
pub mod FirstOfOne
pub mod FirstMeeting
