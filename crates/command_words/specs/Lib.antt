pub mod Arguments
pub mod Commands
pub mod Form
pub mod Job
pub mod Parsing
pub mod Verbs
