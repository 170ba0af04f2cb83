pub mod Functions
pub mod Table
