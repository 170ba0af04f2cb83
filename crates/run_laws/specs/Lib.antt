pub mod Laws
pub mod Maps
pub mod Runs
pub mod Shapes
