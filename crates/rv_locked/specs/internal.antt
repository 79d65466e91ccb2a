pub mod Rooms
pub mod Watching
