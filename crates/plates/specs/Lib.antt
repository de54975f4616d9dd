pub mod Elements
pub mod Closing
pub mod Steps
pub mod View
pub mod Known
pub mod Promise
pub mod Forests
