pub mod Own
pub mod Threaded
pub mod Watched
pub mod internal
