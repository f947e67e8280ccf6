pub mod Laws
mod Angles
mod Boxes
mod NodeValues
mod Positions
mod Ranges
mod Reduced
mod SegmentBoxes
mod SignFacts
mod Sizes
