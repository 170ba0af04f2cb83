pub mod Stack
pub mod References
pub mod Steps
