pub mod Decimals
pub mod DigitValues
pub mod Floors
pub mod Lengths
pub mod ReadsBack
pub mod Roots
pub mod Splits
pub mod Texts
