pub mod Ranges
pub mod Segments
pub mod Steps
