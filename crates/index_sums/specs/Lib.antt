pub mod IndexSums
pub mod Laws
