pub mod Steps
pub mod NewNames
pub mod Aims
