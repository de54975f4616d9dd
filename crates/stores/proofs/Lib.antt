pub mod Paged
pub mod Records
pub mod Rolled
