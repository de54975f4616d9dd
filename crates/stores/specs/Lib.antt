pub mod Meaning
pub mod Reach
pub mod Seen
pub mod Pages
pub mod Rolls
