pub mod InPlace
pub mod Made
pub mod Parts
pub mod Pushed
