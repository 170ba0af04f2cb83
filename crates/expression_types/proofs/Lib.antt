pub mod Loops
pub mod Chains
pub mod Indices
pub mod Compositions
