pub mod Loops
pub mod Sums
pub mod Results
pub mod Contributed
