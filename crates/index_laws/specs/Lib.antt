pub mod AtomValues
pub mod Fits
pub mod Laws
pub mod SignedSums
pub mod Sizes
