pub mod Numerals
pub mod Patterns
