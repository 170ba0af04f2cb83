pub mod Meanings
pub mod Typings
