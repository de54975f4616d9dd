pub mod Keywords
pub mod Colors
pub mod Lookups
