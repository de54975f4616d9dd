pub mod Cursors
pub mod Failures
pub mod Floats
pub mod Numbers
pub mod Quoting
