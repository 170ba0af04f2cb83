pub mod Chains
pub mod Comparisons
