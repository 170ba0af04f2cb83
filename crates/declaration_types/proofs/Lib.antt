pub mod Folds
pub mod Reserved
pub mod Judged
