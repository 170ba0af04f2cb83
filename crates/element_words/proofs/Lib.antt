pub mod Compared
pub mod Folds
pub mod Forms
pub mod Parts
