pub mod Driving
pub mod Pieces
pub mod Slots
pub mod Whole
