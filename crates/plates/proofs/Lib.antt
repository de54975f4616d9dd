pub mod Tags
pub mod Stacks
pub mod Outcomes
pub mod Opens
pub mod Closes
pub mod Promised
pub mod Legal
pub mod Forests
