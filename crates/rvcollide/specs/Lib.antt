pub mod Ending
pub mod Failure
pub mod Hunt
