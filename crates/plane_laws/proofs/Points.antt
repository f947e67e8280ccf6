-- Points: the same point, their order, and points as values.
pub mod Same
pub mod Order
pub mod Numbers
