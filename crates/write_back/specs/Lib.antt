pub mod Schemas
pub mod Assigned
