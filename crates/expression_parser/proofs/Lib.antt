pub mod Makers
pub mod Nesting
