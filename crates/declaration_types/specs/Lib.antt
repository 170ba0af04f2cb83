pub mod Functions
pub mod Hosts
pub mod Parameters
pub mod Reserved
