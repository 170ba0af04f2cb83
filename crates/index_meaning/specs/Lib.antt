pub mod Agreement
pub mod Laws
pub mod LoweredValues
pub mod TermSums
