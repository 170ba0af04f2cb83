pub mod Atoms
pub mod ChainForm
pub mod Following
pub mod Laws
pub mod Lowered
pub mod Lowering
