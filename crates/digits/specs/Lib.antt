pub mod Decimals
pub mod Magnitudes
pub mod Scaled
pub mod Bare
pub mod Rounded
pub mod Numerals
pub mod Outcomes
pub mod Theorems
