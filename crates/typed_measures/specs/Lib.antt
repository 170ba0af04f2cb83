pub mod Limited
pub mod Costs
pub mod Longer
pub mod Places
pub mod Parts
