pub mod Value
pub mod Scales
pub mod Fields
