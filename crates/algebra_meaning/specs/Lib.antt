pub mod Linked
pub mod Expression
pub mod Means
pub mod Element
pub mod Assembled
pub mod Run
pub mod Loops
