pub mod Chosen
pub mod StagesShown
pub mod Reading
pub mod SetsRead
pub mod Outcomes
pub mod Texts
pub mod Endings
mod Lines
