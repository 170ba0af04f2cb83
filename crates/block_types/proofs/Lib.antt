pub mod Columns
mod StatementsLeave
mod DeclarationsKept
pub mod ProgramsKept
