pub mod FaultCounts
pub mod FileNames
pub mod PutBytes
pub mod TakenBytes
