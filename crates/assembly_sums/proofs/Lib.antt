pub mod Rows
pub mod Blocks
pub mod Entries
pub mod Contributed
