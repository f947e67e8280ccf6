-- Points along a way: their order, what lies between, and common points of two lines.
pub mod PointsInOrder
pub mod OneLine
pub mod AlongWay
pub mod Corners
