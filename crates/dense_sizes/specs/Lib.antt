pub mod DenseWords
pub mod Tallies
