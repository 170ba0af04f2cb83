pub mod Limits
pub mod Growing
pub mod Tests
