pub mod Laws
pub mod Reaches
