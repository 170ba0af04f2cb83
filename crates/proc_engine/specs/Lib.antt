pub mod Running
pub mod Sums
