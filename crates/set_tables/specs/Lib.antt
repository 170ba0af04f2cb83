pub mod Schema
pub mod Table
pub mod Output
pub mod Cursor
pub mod Records
pub mod Inside
pub mod ReadingSteps
pub mod WritingSteps
