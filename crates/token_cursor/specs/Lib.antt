pub mod Reads
pub mod Nests
pub mod Cursor
