pub mod Kept
pub mod Picker
