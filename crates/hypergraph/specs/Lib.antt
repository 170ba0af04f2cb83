pub mod SetValue
pub mod Sets
pub mod Incident
pub mod BadEndpoint
