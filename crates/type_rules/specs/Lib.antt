pub mod Types
pub mod Rules
