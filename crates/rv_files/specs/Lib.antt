pub mod Files
pub mod Saved
pub mod System
