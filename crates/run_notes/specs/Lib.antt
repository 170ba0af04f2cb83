pub mod Limits
pub mod Named
pub mod Notes
