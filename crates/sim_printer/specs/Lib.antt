pub mod FirstLine
pub mod Grown
pub mod Printed
pub mod ReadsBack
