-- Where the edges of one area enter a part of another.
pub mod Reach
pub mod Walk
pub mod Beside
pub mod RingParts
