pub mod Options
pub mod Names
pub mod Faults
pub mod Tables
