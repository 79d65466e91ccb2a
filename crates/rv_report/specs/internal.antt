pub mod Added
pub mod Paused
