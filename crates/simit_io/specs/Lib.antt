pub mod Inputs
pub mod Sink
pub mod Plan
pub mod MemInputs
pub mod MemSink
