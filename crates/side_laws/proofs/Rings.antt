-- Round a ring: the inside lies on one hand of all edges.
pub mod Joint
pub mod Hand
pub mod Ray
