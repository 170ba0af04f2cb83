mod Accepted
mod Equals
mod Form
mod Fullness
mod Numbers
mod Parses
mod Rows
mod Values
mod Walking
pub mod Points
