pub mod Links
pub mod LinkOrders
pub mod Parts
pub mod Joints
pub mod Clashes
pub mod Touches
pub mod Classes
