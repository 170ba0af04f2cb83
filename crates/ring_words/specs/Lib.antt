pub mod Word
pub mod Scale
pub mod Cell
