pub mod Order
pub mod Targets
pub mod Loops
