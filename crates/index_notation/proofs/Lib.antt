pub mod Adding
pub mod Groups
pub mod Links
pub mod Factors
pub mod Scans
pub mod Taking
pub mod Uses
pub mod Weights
