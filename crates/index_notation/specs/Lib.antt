pub mod Lowers
pub mod Parts
