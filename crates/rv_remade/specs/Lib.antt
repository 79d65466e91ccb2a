pub mod FolderFault
pub mod OrderShown
pub mod Remade
pub mod Saved
pub mod Shown
pub mod StuckShown
pub mod internal
